-- What the open calls promise, for every input (document 01, "Conditions of acceptance").
-- Assumes nothing.
use Rattle.std.specs.Prelude.{ℕ, ◌+◌, ◌≡◌, Bool, true, false, List, [], ◌∷◌, eqb, ℤ, length, Ok}
use Rattle.window.specs.Lists.{any}
use Rattle.window.specs.Queries.{count_limit, edge}
use Rattle.window.specs.declared.query.Query.{Query}
use Rattle.window.specs.Refusals.{Verdict, damaged, first_refusal, register_checks, withdraw_checks, reading_checks_at}
use Rattle.window.specs.Calls.{Call, start, register, withdraw, reading, totals, Outcome, accepted, refused}
use Rattle.window.specs.Model as model
use Rattle.window.specs.Model.{initial, step_at}
use Rattle.registry.specs.Records.{ordered, ListKept}
use Rattle.board.specs.Tables.{zeroed_tables, TablesKept}
use Rattle.engine.specs.States.{Intact}
use Rattle.engine.specs.Answers.{answered_places}
use Rattle.engine.specs.Machine.{Machine, queries_of, machine_long, RepresentsAt}

-- what a call says of the machine before it, its outcome and the machine after it
abbrev pub Promise : Type 1
Promise = Machine → Outcome → Machine → Type 0

-- ---- refusals

-- the numbers in a call's own rows of the table of refusals
abbrev pub rows : Call → List ℕ
rows start = 1 ∷ []
rows (register number kind range slide) = 1 ∷ 2 ∷ 3 ∷ 4 ∷ 5 ∷ 6 ∷ 7 ∷ 8 ∷ []
rows (withdraw number) = 1 ∷ 2 ∷ 9 ∷ []
rows (reading v places) = 1 ∷ 2 ∷ 10 ∷ 11 ∷ []
rows totals = 1 ∷ 2 ∷ []

-- the number k is one of them
abbrev pub InRows : Call → ℕ → Type 0
InRows c k = any (eqb k) (rows c) ≡ true

-- number 2 is always given where the query count is above 32, a used record breaks 3 to 6 or has g above n, or two used
-- records share a number
abbrev pub list_damaged : Machine → Bool
list_damaged m = damaged m.state.count m.state.registered (queries_of m)

-- ---- what decides

-- what a call's own checks come to, with n readings taken and these queries registered
abbrev pub verdict_at : ℕ → Call → ℕ → List Query → Verdict
verdict_at limit start n qs = Ok tt
verdict_at limit (register number kind range slide) n qs = first_refusal (register_checks qs number kind range slide)
verdict_at limit (withdraw number) n qs = first_refusal (withdraw_checks qs number)
verdict_at limit (reading v places) n qs = first_refusal (reading_checks_at limit n qs places)
verdict_at limit totals n qs = Ok tt

-- with the limit of this form
abbrev pub verdict_of : Call → ℕ → List Query → Verdict
verdict_of c n qs = verdict_at count_limit c n qs

-- every check passes
pub record PassesAt (limit : ℕ) (c : Call) (m : Machine) : Type 0 where
  pub long : machine_long m ≡ true
  pub intact : Intact m.state m.list
  pub own : verdict_at limit c m.state.count (queries_of m) ≡ Ok tt

-- with the limit of this form
abbrev pub Passes : Call → Machine → Type 0
Passes c m = PassesAt count_limit c m

-- ---- register, withdraw, reading and totals

-- the call c on m came to the outcome o and left m'
pub record EnsuresAt (limit : ℕ) (c : Call) (m : Machine) (o : Outcome) (m' : Machine) : Type 0 where
  -- checks 1 and 2
  pub short : machine_long m ≡ false → o ≡ refused 1
  pub broken : machine_long m ≡ true → list_damaged m ≡ true → o ≡ refused 2
  pub disordered : machine_long m ≡ true → ordered m.state.registered m.list ≡ false → o ≡ refused 2
  -- whatever state of the model is represented: the outcome is the model's, and what is left represents the model's
  -- next state
  pub agrees : (s : model.State) → RepresentsAt limit s m → o ≡ (step_at limit s c).outcome
  pub represents : (s : model.State) → RepresentsAt limit s m → RepresentsAt limit (step_at limit s c).state m'
  -- a refused call changes nothing, and its number is in the call's own rows
  pub unchanged : (k : ℕ) → o ≡ refused k → m' ≡ m
  pub own : (k : ℕ) → o ≡ refused k → InRows c k
  -- whatever the tables hold: where every check passes, it is not refused
  pub accepts : PassesAt limit c m → (k : ℕ) → o ≡ refused k → ⊥
  -- no place beyond the list's, and none beyond the first 4,096 of a table, is written
  pub list_kept : ListKept m.list m'.list
  pub kept : TablesKept m.tables m'.tables

-- with the limit of this form
abbrev pub Ensures : Call → Machine → Outcome → Machine → Type 0
Ensures c m o m' = EnsuresAt count_limit c m o m'

-- ---- reading

-- the answer table after a call: an accepted reading writes the places of its answers and no other, a refused one none.
-- With the outcome that a reading returns, read from that table (`reading_outcome`), it comes to this. Where the model's
-- answers are as, k of them: the reading returns k, `answers_in k after ≡ as`, and
--     after ≡ places as ++ drop (4 * k) before
abbrev pub places_after : Outcome → List ℤ → List ℤ
places_after (accepted ns answers) places = answered_places answers places
places_after (refused k) places = places

-- the reading v with an answer table that held `before` and holds `after`
pub record ReadingEnsuresAt (limit : ℕ) (v : ℤ) (before after : List ℤ) (m : Machine) (o : Outcome) (m' : Machine) : Type 0 where
  pub ensures : EnsuresAt limit (reading v (length before)) m o m'
  pub places : after ≡ places_after o before
  -- where nothing is cut, no table is touched
  pub uncut : any (edge (m.state.count + 1)) (queries_of m) ≡ false → m'.tables ≡ m.tables
  -- no query joins or leaves
  pub alone : m'.state.registered ≡ m.state.registered

-- with the limit of this form
abbrev pub ReadingEnsures : ℤ → List ℤ → List ℤ → Machine → Outcome → Machine → Type 0
ReadingEnsures v before after m o m' = ReadingEnsuresAt count_limit v before after m o m'

-- ---- start

-- a start on the tables of m, whatever they hold, came to o and left m'
pub record StartEnsuresAt (limit : ℕ) (m : Machine) (o : Outcome) (m' : Machine) : Type 0 where
  -- check 1 is the only one
  pub short : machine_long m ≡ false → o ≡ refused 1
  pub accepts : machine_long m ≡ true → o ≡ accepted (0 ∷ []) []
  -- what is left represents the model's first state, and the tables are zeroed
  pub represents : machine_long m ≡ true → RepresentsAt limit initial m'
  pub zeroes : machine_long m ≡ true → m'.tables ≡ zeroed_tables m.tables
  pub list_kept : ListKept m.list m'.list
  pub unchanged : (k : ℕ) → o ≡ refused k → m' ≡ m
  pub own : (k : ℕ) → o ≡ refused k → InRows start k

-- with the limit of this form
abbrev pub StartEnsures : Machine → Outcome → Machine → Type 0
StartEnsures m o m' = StartEnsuresAt count_limit m o m'
