-- `totals`: it is refused by checks 1 and 2, or returns the four numbers. Assumes nothing.
use Rattle.std.proofs.Common.{refl}
use Rattle.std.proofs.lemmas.Result.{err_from_is_err_and}
use Rattle.window.specs.Calls as calls
use Rattle.board.specs.Lending.{shared_lists}
use Rattle.engine.specs.Machine.{Machine, machine}
use Rattle.engine.proofs.Accepting.{all_pass, accepted-totals}
use Rattle.engine.proofs.Refusing.{refused-call}
use Rattle.engine.proofs.calls.totals.Goals as goal

pub returns-in_err-judge_entry : goal.returns-in_err-judge_entry
returns-in_err-judge_entry c =
    let a = c.args in
    let m : Machine = machine a.state a.list.now (shared_lists a.tables) in
    let p = err_from_is_err_and c.from_residual.result c.from_residual.ensures.1 in
    rw (p.1, p.2) (refused-call calls.totals m _ _ refl refl c.in_err-judge_entry.ensures.judged refl)

pub returns : goal.returns
returns c =
    let a = c.args in
    let m : Machine = machine a.state a.list.now (shared_lists a.tables) in
    rw c.tally.ensures (accepted-totals m (all_pass calls.totals m _ c.in_ok-judge_entry.ensures.judged refl))
