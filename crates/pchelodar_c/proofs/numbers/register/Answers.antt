-- `register`: where the engine's call is accepted the state after it is written back. Assumes nothing.
use Rattle.window.specs.Calls.{register}
use Rattle.engine.proofs.Steady.{call_steady}
use Rattle.pchelodar_c.proofs.Calling.{written_back}
use Rattle.pchelodar_c.proofs.numbers.register.Goals as goal

pub returns-clause-called : goal.returns-clause-called
returns-clause-called c =
    let q = c.args.asked in
    let s = c.store_state.ensures in
    written_back (call_steady (register q.number q.kind q.range q.slide)) c.in_ok-before.ensures c.in_ok-after.ensures.called s.written s.read
