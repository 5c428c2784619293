-- Answers: their places in the answer table, and their values from what the rings hold.
-- Assumes nothing.
use Rattle.std.specs.Prelude.{ℕ, zero, suc, ◌+◌, ◌*◌, ◌≤◌, cond, List, [], ◌∷◌, ◌++◌, eqb, ℤ, pos, nat_abs, length, get_or, take, drop}
use Rattle.window.specs.declared.query.Query.{Query}
use Rattle.window.specs.Lists.{Each}
use Rattle.window.specs.Queries.{count_kind, window_start, window_count}
use Rattle.window.specs.Refusals.{answer_places}
use Rattle.window.specs.Calls.{Answer}
use Rattle.board.specs.declared.aggregate.Aggregate.{Aggregate}
use Rattle.board.specs.declared.board.Board.{Board}
use Rattle.board.specs.Aggregates.{closed_from}
use Rattle.board.specs.Ledgers.{Ledger, value_over}
use Rattle.board.specs.Tables.{Tables}
use Rattle.board.specs.Boards.{Holds}

-- ---- the places of answers

-- the answer of q, with the count of readings in its window and their value
abbrev pub answer_with : Query → ℕ → ℤ → Answer
answer_with q count value = record { number = q.number; kind = q.kind; count = count; value = value }

-- the four places of an answer
abbrev pub places_of : Answer → List ℤ
places_of a = pos a.number ∷ pos a.kind ∷ pos a.count ∷ a.value ∷ []

-- the places of answers, in their order
abbrev pub places : List Answer → List ℤ
places [] = []
places (a ∷ more) = places_of a ++ places more

-- the table with one answer written from a place on
abbrev pub put_at : ℕ → Answer → List ℤ → List ℤ
put_at at a t = take at t ++ (places_of a ++ drop (at + answer_places) t)

-- the table with the answers written from its first place on, and no other place changed
abbrev pub answered_places : List Answer → List ℤ → List ℤ
answered_places given t = places given ++ drop (answer_places * length given) t

-- the first k answers that are read from a table, four places each. The first three are read without their sign: that
-- none of them is negative is said beside it, by `ReadingEnsures.places`: the table after a reading is the one before
-- with just these answers written (`answered_places`), and written numbers are not negative (`places_of`)
abbrev pub answers_in : ℕ → List ℤ → List Answer
answers_in zero t = []
answers_in (suc k) t =
    record { number = nat_abs (get_or t 0 (pos 0)); kind = nat_abs (get_or t 1 (pos 0)); count = nat_abs (get_or t 2 (pos 0)); value = get_or t 3 (pos 0) }
    ∷ answers_in k (drop answer_places t)

-- ---- the values of windows, from what is closed

-- where a board stands for a ledger, at a horizon that no window of these queries at n starts before
pub record Backing (n : ℕ) (qs : List Query) (b : Board) (t : Tables) : Type 0 where
  pub horizon : ℕ
  pub ledger : Ledger
  pub holds : Holds horizon ledger b t
  pub early : Each (λ (q : Query). horizon ≤ window_start n q) qs

-- the value of the window of q at n: the count of its readings, or the value of its kind over what is closed from its
-- start on
unfoldable pub value_in : List Aggregate → ℕ → Query → ℤ
value_in cs n q = cond (eqb q.kind count_kind) (pos (window_count n q)) (value_over q.kind (closed_from (window_start n q) cs))

-- the answer of q from what is closed
unfoldable pub answer_in : List Aggregate → ℕ → Query → Answer
answer_in cs n q = answer_with q (window_count n q) (value_in cs n q)
