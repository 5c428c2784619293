-- `call`: each line's call promises what the engine's does. Assumes nothing.
use Rattle.std.proofs.Common.{to_z-of_z, w32, rules, arith}
use Rattle.std.proofs.lemmas.Result.{err_from_is_err_and}
use Rattle.session.proofs.Calling.{registered, not_registered, withdrawn, not_withdrawn, read, not-called}
use Rattle.session.proofs.call.call.Goals as goal

pub returns-in_err-registration-clause-called : goal.returns-in_err-registration-clause-called
returns-in_err-registration-clause-called c =
    let p = err_from_is_err_and c.from_residual.result c.from_residual.ensures.1 in
    rw (p.1, p.2) (not-called c.in_err-registration.was)

pub returns-in_err-state-in-Register-clause-called : goal.returns-in_err-state-in-Register-clause-called
returns-in_err-state-in-Register-clause-called c =
    let r = c.from_residual-in_err-state-in-Register in
    let p = err_from_is_err_and r.result r.ensures.1 in
    rw (p.1, p.2) (not_registered _ _ _ c.in_ok-registration.was _ c.in-Register.is c.in_err-state-in-Register.ensures.called)

pub returns-in_err-state-in-Withdraw-clause-called : goal.returns-in_err-state-in-Withdraw-clause-called
returns-in_err-state-in-Withdraw-clause-called c =
    let r = c.from_residual-in_err-state-in-Withdraw in
    let p = err_from_is_err_and r.result r.ensures.1 in
    rw (p.1, p.2) (not_withdrawn _ _ _ c.in_ok-registration.was _ c.in-Withdraw.is (rw c.shared.ensures at c.in_err-state-in-Withdraw.ensures))

pub returns-in-Reading-clause-called : goal.returns-in-Reading-clause-called
returns-in-Reading-clause-called c =
    read c.in_ok-registration.was c.in-Reading.is (to_z-of_z {w = w32} {z = c.in-Reading.value} (record { sfits = search rules })) (omega arith) c.reading.ensures.called

pub returns-in_ok-state-in-Register-clause-called : goal.returns-in_ok-state-in-Register-clause-called
returns-in_ok-state-in-Register-clause-called c = registered _ _ _ c.in_ok-registration.was c.in-Register.is c.in_ok-state-in-Register.ensures.called

pub returns-in_ok-state-in-Withdraw-clause-called : goal.returns-in_ok-state-in-Withdraw-clause-called
returns-in_ok-state-in-Withdraw-clause-called c =
    withdrawn _ _ _ c.in_ok-registration.was c.in-Withdraw.is (rw c.shared.ensures at c.in_ok-state-in-Withdraw.ensures)
