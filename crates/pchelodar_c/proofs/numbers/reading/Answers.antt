-- `reading`: where the engine's call is accepted the state after it is written. Assumes nothing.
use Rattle.std.proofs.Common.{to_z-of_z, arith}
use Rattle.std.proofs.lemmas.Grind.{common_steps}
use Rattle.std.proofs.lemmas.Result.{err_from_is_err_and}
use Rattle.engine.proofs.Steady.{reading_steady}
use Rattle.pchelodar_c.proofs.Calling.{written_back}
use Rattle.pchelodar_c.proofs.numbers.reading.Goals as goal

pub returns-in_err-read-clause-called : goal.returns-in_err-read-clause-called
returns-in_err-read-clause-called c =
    let p = rw (to_z-of_z c.ranges.value) at c.in_err-read.ensures.called in
    let e = err_from_is_err_and c.from_residual-in_err-read.result c.from_residual-in_err-read.ensures.1 in
    rw (e.1, e.2) (grind (arith, common_steps))

pub returns-clause-called : goal.returns-clause-called
returns-clause-called c =
    let a = c.args in
    let s = c.store_state.ensures in
    let p = rw (to_z-of_z c.ranges.value) at c.in_ok-read.ensures.called in
    written_back (reading_steady a.value a.answers.now c.reading.new.answers) c.in_ok-before.ensures p s.written s.read
