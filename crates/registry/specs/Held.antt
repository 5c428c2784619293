-- The code's structs of a lent list: the queries that one holds, and what checks 1 and 2 on a list come to.
-- Assumes nothing.
use Rattle.std.specs.Prelude.{◌≡◌, ℕ, ◌<◌, ◌≤◌, true, false, List, length, Result, MatchResult, ◌⊎◌}
use Rattle.window.specs.declared.query.Query.{Query}
use Rattle.window.specs.declared.refusal.Refusal.{Refusal}
use Rattle.window.specs.declared.refusal.Refusal.TheVariants.{TableTooShort, Damaged}
use Rattle.registry.specs.declared.list.Queries.{Queries}
use Rattle.registry.specs.declared.list.Checked.{Checked}
use Rattle.registry.specs.Records.{list_places, used, list_fits}

-- its used records, in registration order
abbrev pub held : Queries → List Query
held queries = used queries.used queries.list.now

-- with n readings taken and k queries registered: the list itself, where it is long enough and passes check 2;
-- otherwise refusal 1 or 2
abbrev pub ListJudged : (n k : ℕ) → List ℕ → Result Checked Refusal → Type 0
ListJudged n k l r =
    MatchResult r
    (λ checked. (list_places ≤ length l) × (list_fits n k l ≡ true) × (checked.queries.used ≡ k) × (checked.queries.list.now ≡ l))
    (λ e. ((length l < list_places) × (e ≡ TableTooShort)) ⊎ ((list_places ≤ length l) × (list_fits n k l ≡ false) × (e ≡ Damaged)))
