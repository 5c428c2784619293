-- `withdraw`: where the engine's call is accepted the state after it is written back. Assumes nothing.
use Rattle.window.specs.Calls.{withdraw}
use Rattle.engine.proofs.Steady.{call_steady}
use Rattle.pchelodar_c.proofs.Calling.{written_back}
use Rattle.pchelodar_c.proofs.numbers.withdraw.Goals as goal

pub returns : goal.returns
returns c =
    let s = c.store_state.ensures in written_back (call_steady (withdraw c.args.number)) c.in_ok-before.ensures c.in_ok-after.ensures s.written s.read
