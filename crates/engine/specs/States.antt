-- The engine's state: what check 2 asks of it, and what a start, a reading and a withdrawal make of it.
-- Assumes nothing.
use Rattle.std.specs.Prelude.{ℕ, ◌+◌, ◌≤◌, ◌≡◌, Bool, true, false, List, ℤ, Err}
use Rattle.window.specs.declared.refusal.Refusal.TheVariants.{TableTooShort, Damaged}
use Rattle.window.specs.Refusals.{Verdict}
use Rattle.board.specs.Boards.{Within, EmptyEnsures}
use Rattle.registry.specs.Records.{list_fits}
use Rattle.registry.specs.declared.list.Checked.{Checked}
use Rattle.engine.specs.declared.partial.Open.TheVariants.{Nothing, Empty}
use Rattle.engine.specs.declared.state.State.{State}
use Rattle.engine.specs.Open.{open_with, open_while, FitsOpen}

-- ---- what check 2 asks of the state

-- a state that check 2 lets pass; every state that came from a start is one
pub record Sound (st : State) : Type 0 where
  pub early : st.board.closed ≤ st.count
  pub board : Within st.board
  pub partial : FitsOpen st.count st.board.closed st.partial

-- state and query list pass check 2
pub record Intact (st : State) (l : List ℕ) : Type 0 where
  pub list : list_fits st.count st.registered l ≡ true
  pub state : Sound st

-- what checks 1 and 2 and then the call's own come to, as a verdict: `long` is check 1 on list and tables, and `own`
-- what the call's own come to
pub data Judged (long : Bool) (st : State) (l : List ℕ) (own : Verdict) : Verdict → Type 0 where
  is_short : long ≡ false → Judged long st l own (Err TableTooShort)
  is_damaged : long ≡ true → (Intact st l → ⊥) → Judged long st l own (Err Damaged)
  is_judged : long ≡ true → Intact st l → Judged long st l own own

-- a list that checks 1 and 2 let pass: these numbers, with as many used records as the state says
pub record ListOf (st : State) (l : List ℕ) (checked : Checked) : Type 0 where
  pub used : checked.queries.used ≡ st.registered
  pub numbers : checked.queries.list.now ≡ l

-- ---- the state of a fresh engine

-- nothing is counted, open or held, whatever the tables hold
pub record FreshState (st : State) : Type 0 where
  pub count : st.count ≡ 0
  pub registered : st.registered ≡ 0
  pub partial : st.partial ≡ Nothing
  pub board : EmptyEnsures st.board

-- ---- a reading joins

-- n grows by one, and the reading joins the open partial
abbrev pub with_reading : ℤ → State → State
with_reading v st =
    record { count = st.count + 1; registered = st.registered; partial = open_with st.count v st.partial; board = st.board }

-- ---- a query joins, a query leaves

-- one query more is registered, and an empty partial is open
abbrev pub with_one_more : State → State
with_one_more st = record { count = st.count; registered = st.registered + 1; partial = Empty; board = st.board }

-- so many queries are left
abbrev pub left_with : ℕ → State → State
left_with left st = record { count = st.count; registered = left; partial = open_while left st.partial; board = st.board }
