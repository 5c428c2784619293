-- The laws of a state as numbers: what is written is read again, and it is written at the front.
-- Assumes nothing.
use Rattle.std.proofs.Common.{ℕ, ◌≤◌, ◌≡◌, refl, ap, ◌∙◌, true, ℤ, List, ◌++◌, length, drop, w32, arith, length-append, length-drop}
use Rattle.std.proofs.lemmas.Bool.{lt-ltb, le-leb}
use lib.Dec.{ltb}
use lib.Seq.{drop_at}
use mir.Val.{SFits}
use Rattle.window.specs.Queries.{count_limit}
use Rattle.board.specs.Tables.{KeptBeyond}
use Rattle.board.specs.declared.aggregate.Aggregate.{Aggregate}
use Rattle.engine.specs.declared.partial.Open.{Open}
use Rattle.engine.specs.declared.partial.Open.TheVariants.{Nothing, Empty, Holding}
use Rattle.engine.specs.declared.state.State.{State}
use Rattle.encoding.specs.Signed.{unsigned, signed}
use Rattle.encoding.specs.Written.{state_numbers, width32, narrow, case_of, held_in, held_of, open_of, at, count_in, numbers_of_state, board_of, state_of, within_widths, registered_in}
use Rattle.encoding.proofs.Signs.{signed-unsigned, unsigned-narrow, narrow-same}

-- ---- what is written is read again

-- what a state and what its open partial holds are within as the machine has them: the widths of their numbers
pub record WithinAt (st : State) (held : Aggregate) : Type 0 where
  pub count : st.count ≤ count_limit
  pub closed : st.board.closed ≤ count_limit
  pub start : held.start ≤ count_limit
  pub maximum : SFits w32 held.maximum
  pub minimum : SFits w32 held.minimum

-- where that is what it holds
abbrev pub Within : State → Type 0
Within st = WithinAt st (held_in st.partial)

-- a count is read as it is
count_same : (n : ℕ) → n ≤ count_limit → count_in n ≡ n
count_same n l = rw (le-leb n count_limit l) refl

-- so is a signed number of 32 bits
narrow_again : (z : ℤ) → SFits w32 z → signed (narrow (unsigned z)) ≡ z
narrow_again z f = ap signed (narrow-same (unsigned z) (unsigned-narrow z f)) ∙ signed-unsigned z

-- the open partial is read again
open_again : (o : Open) → open_of (case_of o) (held_in o) ≡ o
open_again Nothing = refl
open_again Empty = refl
open_again (Holding a) = refl

case-few : (o : Open) → ltb (case_of o) 3 ≡ true
case-few Nothing = refl
case-few Empty = refl
case-few (Holding a) = refl

-- what it holds is read again
held_again : (a : Aggregate) → a.start ≤ count_limit → SFits w32 a.maximum → SFits w32 a.minimum → held_of a.start (unsigned a.sum) (unsigned a.maximum) (unsigned a.minimum) ≡ a
held_again a s f g = rw (count_same a.start s, signed-unsigned a.sum, narrow_again a.maximum f, narrow_again a.minimum g) refl

-- how many queries are registered is read again
registered_again : (st : State) → Within st → registered_in (numbers_of_state st) ≡ st.registered
unfolding registered_in within_widths numbers_of_state
registered_again st w =
    rw (
      le-leb st.count count_limit w.count,
      le-leb st.board.closed count_limit w.closed,
      case-few st.partial,
      le-leb (held_in st.partial).start count_limit w.start,
      lt-ltb (unsigned (held_in st.partial).maximum) width32 (unsigned-narrow (held_in st.partial).maximum w.maximum),
      lt-ltb (unsigned (held_in st.partial).minimum) width32 (unsigned-narrow (held_in st.partial).minimum w.minimum),
    )
    refl

-- so is the rest
parts_again : (st : State) → Within st
    → ◌≡◌ {A = State} (record { count = count_in (at (numbers_of_state st) 0); registered = st.registered; partial = open_of (at (numbers_of_state st) 2) (held_of (at (numbers_of_state st) 3) (at (numbers_of_state st) 4) (at (numbers_of_state st) 5) (at (numbers_of_state st) 6)); board = board_of (numbers_of_state st) }) st
unfolding board_of numbers_of_state
parts_again st w =
    rw (
      count_same st.count w.count,
      count_same st.board.closed w.closed,
      held_again (held_in st.partial) w.start w.maximum w.minimum,
      open_again st.partial,
      signed-unsigned st.board.sums.lap,
      signed-unsigned st.board.sums.previous,
    )
    refl

-- a state that is written is read again
pub state_again : (st : State) → Within st → state_of (numbers_of_state st) ≡ st
unfolding state_of
state_again st w = rw (registered_again st w) (parts_again st w)

-- ---- what is written stands at the front

-- nothing beyond the front is written
front_kept : (front w w' : List ℕ) (k : ℕ) → length front ≡ k → k ≤ length w → w' ≡ front ++ drop k w → KeptBeyond k w w'
front_kept front w w' k n l e =
    record {
      as_long = ap length e ∙ omega (arith, length-append front (drop k w), length-drop k w);
      beyond = ap (drop k) e ∙ drop_at front (drop k w) k n;
    }

-- eighteen numbers of a state
pub numbers_eighteen : (st : State) → length (numbers_of_state st) ≡ state_numbers
unfolding numbers_of_state
numbers_eighteen st = refl

-- of a state
pub state_kept : (st : State) (w w' : List ℕ) → state_numbers ≤ length w → w' ≡ numbers_of_state st ++ drop state_numbers w → KeptBeyond state_numbers w w'
state_kept st w w' = front_kept (numbers_of_state st) w w' state_numbers (numbers_eighteen st)
