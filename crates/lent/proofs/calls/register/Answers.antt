-- `register`: the list is too short, the engine refuses, or the query joins. Assumes nothing.
use Rattle.std.proofs.lemmas.Result.{err_from_is_err_and}
use Rattle.engine.proofs.Steady.{call_steady}
use Rattle.lent.proofs.Lending.{refused-lent, register-lent}
use Rattle.lent.proofs.calls.register.Goals as goal

pub returns-in_err-next-clause-called : goal.returns-in_err-next-clause-called
returns-in_err-next-clause-called c =
    let h = c.in_ok-numbers.ensures in
    let p = err_from_is_err_and c.from_residual-in_err-next.result c.from_residual-in_err-next.ensures.1 in
    rw (p.1, p.2) (refused-lent _ _ _ h.0 _ (call_steady _) _ _ _ (rw h.1 at c.in_err-next.ensures.called))

pub returns-clause-called : goal.returns-clause-called
returns-clause-called c =
    let h = c.in_ok-numbers.ensures in
    register-lent _ _ _ h.0 _ _ _ _ _ _ _ _ _ _ (rw h.1 at c.in_ok-next.ensures.called) (rw c.at.ensures at c.append.ensures.1)
