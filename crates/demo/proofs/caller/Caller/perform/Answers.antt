-- `perform`: an accepted start, and the exits of a call that is refused. Assumes nothing.
use Rattle.std.proofs.lemmas.Result.{err_from_is_err_and}
use Rattle.demo.proofs.caller.Caller.perform.Goals as goal

pub returns-in_err-self-in-Start-clause-performed : goal.returns-in_err-self-in-Start-clause-performed
returns-in_err-self-in-Start-clause-performed c =
    let p = err_from_is_err_and c.from_residual.result c.from_residual.ensures.1 in
    rw (p.1, p.2, c.in-Start.is) (c.in_err-self-in-Start.ensures.called c.args.self.now.state)

pub returns-in_err-self-in-Register-clause-performed : goal.returns-in_err-self-in-Register-clause-performed
returns-in_err-self-in-Register-clause-performed c =
    let p = err_from_is_err_and c.from_residual-in_err-self-in-Register.result c.from_residual-in_err-self-in-Register.ensures.1 in
    rw (p.1, p.2, c.in-Register.is) c.in_err-self-in-Register.ensures.called

pub returns-in_err-self-in-Withdraw-clause-performed : goal.returns-in_err-self-in-Withdraw-clause-performed
returns-in_err-self-in-Withdraw-clause-performed c =
    let p = err_from_is_err_and c.from_residual-in_err-self-in-Withdraw.result c.from_residual-in_err-self-in-Withdraw.ensures.1 in
    rw (p.1, p.2, c.in-Withdraw.is) (rw c.shared-tables.ensures at c.in_err-self-in-Withdraw.ensures)
