-- `withdraw`: a check refuses it, or the query leaves. Assumes nothing.
use Rattle.std.proofs.Common.{refl}
use Rattle.std.proofs.lemmas.Result.{err_from_is_err_and}
use Rattle.window.specs.Calls as calls
use Rattle.registry.proofs.Intact.{fits-few}
use Rattle.board.specs.Lending.{shared_lists}
use Rattle.engine.specs.Machine.{Machine, machine}
use Rattle.engine.proofs.Listing.{long-list}
use Rattle.engine.proofs.Accepting.{all_pass, accepted-withdraw}
use Rattle.engine.proofs.Refusing.{refused-call}
use Rattle.engine.proofs.calls.withdraw.Goals as goal

pub returns-in_err-judge_withdraw : goal.returns-in_err-judge_withdraw
returns-in_err-judge_withdraw c =
    let a = c.args in
    let m : Machine = machine a.state a.list.now (shared_lists a.tables) in
    let p = err_from_is_err_and c.from_residual.result c.from_residual.ensures.1 in
    rw (p.1, p.2) (refused-call (calls.withdraw a.number) m _ _ refl refl c.in_err-judge_withdraw.ensures refl)

pub withdraw-left-requires : goal.withdraw-left-requires
withdraw-left-requires c =
    let a = c.args in
    let m : Machine = machine a.state a.list.now (shared_lists a.tables) in
    let p = all_pass (calls.withdraw a.number) m _ c.in_ok-judge_withdraw.ensures refl in
    (long-list m p.long, fits-few a.state.count a.state.registered a.list.now p.intact.list)

pub returns : goal.returns
returns c =
    let a = c.args in
    let m : Machine = machine a.state a.list.now (shared_lists a.tables) in
    accepted-withdraw a.number m _ c.withdraw-left.result _
    (all_pass (calls.withdraw a.number) m _ c.in_ok-judge_withdraw.ensures refl) c.withdraw-left.ensures c.left_with.ensures
