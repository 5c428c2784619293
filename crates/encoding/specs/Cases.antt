-- The cases of an open partial by the code's enum, with their numbers.
-- Assumes nothing.
use Rattle.std.specs.Prelude.{ℕ, ◌≡◌, ltb, false, Result, MatchResult}
use Rattle.encoding.specs.declared.cases.Case.{Case}
use Rattle.encoding.specs.declared.cases.Case.TheVariants.{Nothing, Empty, Holding}

-- the number of each
abbrev pub case_number : Case → ℕ
case_number Nothing = 0
case_number Empty = 1
case_number Holding = 2

-- a number read as a case: the case with this number, or none where the number is above 2
abbrev pub CaseOf : ℕ → Result Case (Unit {0}) → Type 0
CaseOf number r = MatchResult r (λ case. case_number case ≡ number) (λ e. ltb number 3 ≡ false)
