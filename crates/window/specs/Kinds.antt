-- The kinds by the code's enum, with the document's numbers.
-- Assumes nothing.
use Rattle.std.specs.Prelude.{ℕ, ◌≡◌, false, Result, MatchResult}
use Rattle.window.specs.declared.query.Kind.{Kind}
use Rattle.window.specs.declared.query.Kind.TheVariants.{Sum, Count, Maximum, Minimum}
use Rattle.window.specs.declared.refusal.Refusal.{Refusal}
use Rattle.window.specs.declared.refusal.Refusal.TheVariants.{KindOutside}
use Rattle.window.specs.Queries.{sum_kind, count_kind, maximum_kind, minimum_kind, kind_limit}
use Rattle.window.specs.Refusals.{within}

-- document 01's number of each kind
abbrev pub kind_number : Kind → ℕ
kind_number Sum = sum_kind
kind_number Count = count_kind
kind_number Maximum = maximum_kind
kind_number Minimum = minimum_kind

-- a number read as a kind: the kind with this number, or refusal 4 where the number is not 1 to 4
abbrev pub KindOf : ℕ → Result Kind Refusal → Type 0
KindOf number r = MatchResult r (λ kind. kind_number kind ≡ number) (λ e. (within 1 kind_limit number ≡ false) × (e ≡ KindOutside))
