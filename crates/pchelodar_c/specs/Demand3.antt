-- Demand 3 for the calls on lent numbers, of what a caller in C receives. `proofs/Agreement.antt` proves it.
--
-- For every list of calls whose numbers are of the types that the functions take there is a run: each of the five
-- functions is proved to return on every input, and what it returns and leaves meets its contract, which gives
-- `Performs` (`returned_performs`, `reading_performs`, `totals_performs`). So from every fresh one whose places hold
-- numbers of their types `Performed` has a run for every such list of calls and all answer tables. (That the functions
-- return is read off their proofs; it is no law stated here.)
-- Assumes nothing.
use Rattle.std.specs.Prelude.{ℕ, ◌≡◌, List, ℤ, length}
use Rattle.window.specs.Queries.{count_limit}
use Rattle.window.specs.Calls.{Call, Outcome}
use Rattle.registry.specs.Records.{Tidy}
use Rattle.engine.specs.Promises.{Promise, StartEnsures}
use Rattle.engine.specs.Demand3.{PerformsOn, Demand3On, FromStartOn, BoardLiveOn, NeverDamagedOn}
use Rattle.pchelodar_c.specs.Slices.{Slices, slices_long, slices_machine}
use Rattle.pchelodar_c.specs.Promises.{code_outcome, reading_code_outcome, totals_code_outcome, OnNumbers, ReadingOnNumbers, TotalsOnNumbers}

-- ---- a call, with all that its caller finds: `ensures` is the function's contract, and `read` says that the outcome
-- is what the caller reads off the returned code and the places after the call

-- start, register and withdraw
pub record Returned (promise : Promise) (m : Slices) (o : Outcome) (m' : Slices) : Type 0 where
  pub code : ℕ
  pub read : o ≡ code_outcome code
  pub ensures : OnNumbers promise m (code_outcome code) m'

-- the reading v: an answer table of so many places, with any content, before and after it, and the place for the number
-- of answers before and after it
pub record ReadingReturned (v : ℤ) (places : ℕ) (m : Slices) (o : Outcome) (m' : Slices) : Type 0 where
  pub before : List ℤ
  pub after : List ℤ
  pub given : ℕ
  pub given' : ℕ
  pub code : ℕ
  pub long : length before ≡ places
  pub read : o ≡ reading_code_outcome code given' after
  pub ensures : ReadingOnNumbers v before after given given' m (reading_code_outcome code given' after) m'

-- totals: its four places before and after it
pub record TotalsReturned (m : Slices) (o : Outcome) (m' : Slices) : Type 0 where
  pub before : List ℕ
  pub after : List ℕ
  pub code : ℕ
  pub read : o ≡ totals_code_outcome code after
  pub ensures : TotalsOnNumbers before after m (totals_code_outcome code after)
  -- nothing but the four places is lent for writing
  pub same : m' ≡ m

-- ---- the claim

-- the call c on m came to o and left m'
abbrev pub Performs : Call → Slices → Outcome → Slices → Type 0
Performs c m o m' = PerformsOn count_limit Returned ReadingReturned TotalsReturned c m o m'

-- the claim about the whole list; the queries are read from the lent list as it stands, and what is unused in it is 0
abbrev pub Demand3 : Type 0
Demand3 = Demand3On slices_machine slices_long Performs

-- what stands beside it
abbrev pub FromStart : Type 0
FromStart = FromStartOn slices_machine slices_long Performs

abbrev pub BoardLive : Type 0
BoardLive = BoardLiveOn slices_machine slices_long Performs

abbrev pub NeverDamaged : Type 0
NeverDamaged = NeverDamagedOn slices_machine slices_long Performs

-- and a start that returned 0 left all records of the query list, and its places by number, 0
abbrev pub StartZeroes : Type 0
StartZeroes = (m m' : Slices) → OnNumbers StartEnsures m (code_outcome 0) m' → Tidy 0 m'.queries
