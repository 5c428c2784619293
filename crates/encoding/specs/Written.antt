-- The state, written as numbers and read from them.
-- Assumes nothing.
use Rattle.std.specs.Prelude.{ℕ, ◌+◌, Bool, cond, ◌&&◌, List, [], ◌∷◌, eqb, ltb, leb, pos, get_or}
use Rattle.window.specs.Queries.{count_limit}
use Rattle.deque.specs.declared.extremes.Deque.{Deque}
use Rattle.deque.specs.declared.sums.Sums.{Sums}
use Rattle.registry.specs.Records.{record_limit}
use Rattle.board.specs.declared.aggregate.Aggregate.{Aggregate}
use Rattle.board.specs.declared.board.Board.{Board}
use Rattle.engine.specs.declared.partial.Open.{Open}
use Rattle.engine.specs.declared.partial.Open.TheVariants.{Nothing, Empty, Holding}
use Rattle.engine.specs.declared.state.State.{State}
use Rattle.encoding.specs.Signed.{unsigned, signed}

-- ---- the state

-- a state is written as 18 numbers
abbrev pub state_numbers : ℕ
state_numbers = 18

-- the numbers of 32 bits are those below this one
abbrev pub width32 : ℕ
width32 = 4294967296

-- the open partial by its case, and what it holds: 0 where it holds nothing
abbrev pub case_of : Open → ℕ
case_of Nothing = 0
case_of Empty = 1
case_of (Holding a) = 2

abbrev pub held_in : Open → Aggregate
held_in Nothing = record { start = 0; sum = pos 0; maximum = pos 0; minimum = pos 0 }
held_in Empty = record { start = 0; sum = pos 0; maximum = pos 0; minimum = pos 0 }
held_in (Holding a) = a

-- the numbers of a state
unfoldable pub numbers_of_state : State → List ℕ
numbers_of_state st =
    st.count
    ∷ st.board.closed
    ∷ case_of st.partial
    ∷ (held_in st.partial).start
    ∷ unsigned (held_in st.partial).sum
    ∷ unsigned (held_in st.partial).maximum
    ∷ unsigned (held_in st.partial).minimum
    ∷ st.board.sums.ring.head
    ∷ st.board.sums.ring.len
    ∷ unsigned st.board.sums.lap
    ∷ unsigned st.board.sums.previous
    ∷ st.board.maxima.ring.head
    ∷ st.board.maxima.ring.len
    ∷ st.board.maxima.comparisons
    ∷ st.board.minima.ring.head
    ∷ st.board.minima.ring.len
    ∷ st.board.minima.comparisons
    ∷ st.registered
    ∷ []

-- the number at a place
abbrev pub at : List ℕ → ℕ → ℕ
at w i = get_or w i 0

-- a number is within the width of a count
abbrev pub is_count : ℕ → Bool
is_count w = leb w count_limit

-- a count is read as it is, a number outside its width as 0
abbrev pub count_in : ℕ → ℕ
count_in w = cond (is_count w) w 0

-- a number of 32 bits is read as it is, any other as 0
abbrev pub narrow : ℕ → ℕ
narrow w = cond (ltb w width32) w 0

-- the open partial of a case that holds a; a case above 2 is refused by its width
abbrev pub open_of : ℕ → Aggregate → Open
open_of case a = cond (eqb case 0) Nothing (cond (eqb case 1) Empty (Holding a))

-- what it holds, by start, sum, maximum and minimum
abbrev pub held_of : ℕ → ℕ → ℕ → ℕ → Aggregate
held_of start sum maximum minimum = record { start = count_in start; sum = signed sum; maximum = signed (narrow maximum); minimum = signed (narrow minimum) }

-- the closed partials with their sums, by head and length of their ring, and the sums of two laps
abbrev pub sums_of : ℕ → ℕ → ℕ → ℕ → Sums
sums_of head len lap previous = record { ring = record { head = head; len = len }; lap = signed lap; previous = signed previous }

-- a monotonic deque, by head and length of its ring, and the comparisons made
abbrev pub deque_of : ℕ → ℕ → ℕ → Deque
deque_of head len comparisons = record { ring = record { head = head; len = len }; comparisons = comparisons }

-- the board that numbers are read as
unfoldable pub board_of : List ℕ → Board
board_of w =
    record {
      closed = count_in (at w 1);
      sums = sums_of (at w 7) (at w 8) (at w 9) (at w 10);
      maxima = deque_of (at w 11) (at w 12) (at w 13);
      minima = deque_of (at w 14) (at w 15) (at w 16);
    }

-- each number is within the width of what it stands for
unfoldable pub within_widths : List ℕ → Bool
within_widths w =
    is_count (at w 0)
    && (is_count (at w 1)
    && (ltb (at w 2) 3
    && (is_count (at w 3)
    && (ltb (at w 5) width32
    && ltb (at w 6) width32))))

-- how many queries are registered: 33 where a number is outside its width, which check 2 always refuses
unfoldable pub registered_in : List ℕ → ℕ
registered_in w = cond (within_widths w) (at w 17) (record_limit + 1)

-- the state that numbers are read as
unfoldable pub state_of : List ℕ → State
state_of w =
    record {
      count = count_in (at w 0);
      registered = registered_in w;
      partial = open_of (at w 2) (held_of (at w 3) (at w 4) (at w 5) (at w 6));
      board = board_of w;
    }
