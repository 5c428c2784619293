-- What the five calls promise where everything is lent as numbers, for every input: what the engine's calls promise of
-- what the numbers are read as, and that no other place is written.
-- Assumes nothing.
use Rattle.std.specs.Prelude.{ℕ, zero, suc, ◌≡◌, true, false, List, [], ◌∷◌, ℤ, Ok, Err}
use Rattle.window.specs.Refusals.{Verdict, refusal_number}
use Rattle.window.specs.Calls.{Outcome, accepted, refused, totals}
use Rattle.registry.specs.Records.{ListKept}
use Rattle.board.specs.Tables.{KeptBeyond}
use Rattle.engine.specs.Answers.{answers_in}
use Rattle.engine.specs.Promises.{Promise, Ensures, ReadingEnsures, places_after}
use Rattle.encoding.specs.Written.{state_numbers}
use Rattle.pchelodar_c.specs.Slices.{Slices, state_long, slices_long, slices_machine}

-- ---- document 01's numbers and values for what the calls return

-- a returned code: 0 is an acceptance, with this outcome, and any other number the refusal's
abbrev pub coded : ℕ → Outcome → Outcome
coded zero o = o
coded (suc k) o = refused (suc k)

-- the code of what checks came to
abbrev pub code_of : Verdict → ℕ
code_of (Ok x) = 0
code_of (Err refusal) = refusal_number refusal

-- accepted start, register and withdraw calls return 0
abbrev pub code_outcome : ℕ → Outcome
code_outcome code = coded code (accepted (0 ∷ []) [])

-- an accepted reading returns the number of its answers at a place of its own, and they are read from the answer places
-- in order
abbrev pub reading_code_outcome : ℕ → ℕ → List ℤ → Outcome
reading_code_outcome code given places = coded code (accepted (given ∷ []) (answers_in given places))

-- totals returns n, P, M and N at places of their own
abbrev pub totals_code_outcome : ℕ → List ℕ → Outcome
totals_code_outcome code four = coded code (accepted four [])

-- ---- the promises

-- a call on m came to o and left m'
pub record OnNumbers (promise : Promise) (m : Slices) (o : Outcome) (m' : Slices) : Type 0 where
  -- check 1, on the state, the query list and the six tables
  pub short : slices_long m ≡ false → o ≡ refused 1
  -- with room for the numbers of the state: what the engine promises of what they are read as
  pub promised : state_long m ≡ true → promise (slices_machine m) o (slices_machine m')
  -- a refused call changes nothing: no number of the state or of the query list, no table
  pub unchanged : (k : ℕ) → o ≡ refused k → m' ≡ m
  -- nothing beyond the 18 numbers of the state and the 192 of the query list is written
  pub state : KeptBeyond state_numbers m.state m'.state
  pub queries : ListKept m.queries m'.queries

-- the reading v, with an answer table that held `before` and holds `after`, and a place for the number of answers that
-- held `given` and holds `given'`
pub record ReadingOnNumbers (v : ℤ) (before after : List ℤ) (given given' : ℕ) (m : Slices) (o : Outcome) (m' : Slices) : Type 0 where
  pub on_numbers : OnNumbers (ReadingEnsures v before after) m o m'
  pub places : after ≡ places_after o before
  -- a refused reading leaves the number of answers as it was
  pub unanswered : (k : ℕ) → o ≡ refused k → given' ≡ given
  -- no query joins or leaves
  pub alone : m'.queries ≡ m.queries

-- totals, with four places that held `before` and hold `after`
pub record TotalsOnNumbers (before after : List ℕ) (m : Slices) (o : Outcome) : Type 0 where
  pub on_numbers : OnNumbers (Ensures totals) m o m
  pub untold : (k : ℕ) → o ≡ refused k → after ≡ before
