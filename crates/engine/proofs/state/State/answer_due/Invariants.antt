-- `State::answer_due`: the due queries before i are answered, and those from i on are to come. Assumes nothing.
use Rattle.std.proofs.Common.{◌≤◌, ℕ, List, drop}
use Rattle.window.specs.declared.query.Query.{Query}
use Rattle.window.specs.Refusals.{due_at}
use Rattle.window.specs.Calls.{Answer}
use Rattle.registry.specs.Held.{held}
use Rattle.board.specs.declared.board.Board.{Board}
use Rattle.board.specs.Lending.{shared_lists}
use Rattle.board.specs.Tables.{Tables}
use Rattle.engine.specs.Answers.{answer_in, Backing}
use Rattle.engine.proofs.Places.{AnsweredTo}
use Rattle.engine.proofs.state.State.answer_due.Given as goal

-- the answer of a query from what is closed
abbrev pub backed : (n : ℕ) (qs : List Query) (b : Board) (t : Tables) → Backing n qs b t → Query → Answer
backed n qs b t x = answer_in x.ledger.closed n

abbrev pub invariant-loop-i : goal.invariant-loop-i
invariant-loop-i l =
    (l.answered ≤ l.i)
    × AnsweredTo (backed l.self.count (held l.checked.queries) l.self.board (shared_lists l.tables)) (due_at l.self.count (held l.checked.queries)) (due_at l.self.count (drop l.i (held l.checked.queries))) l.initial.answers l.answers l.answered
