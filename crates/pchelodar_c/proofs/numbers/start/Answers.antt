-- `start`: the engine's start is made on what the numbers are read as, and the state after it is written back.
-- Assumes nothing.
use Rattle.std.proofs.Common.{refl, take, arith}
use Rattle.std.proofs.lemmas.Grind.{common_steps}
use Rattle.engine.proofs.Steady.{start_steady}
use Rattle.encoding.specs.Written.{state_numbers, state_of}
use Rattle.pchelodar_c.proofs.Calling.{written_back}
use Rattle.pchelodar_c.proofs.numbers.start.Goals as goal

pub returns-in_err-fresh-clause-called : goal.returns-in_err-fresh-clause-called
returns-in_err-fresh-clause-called c = let p = c.in_err-fresh.ensures.called (state_of (take state_numbers c.args.state.now)) in grind (arith, common_steps)

pub returns-clause-called : goal.returns-clause-called
returns-clause-called c =
    let s = c.store_state.ensures in
    written_back start_steady (c.in_ok-check_room.ensures, refl) (c.in_ok-fresh.ensures.called (state_of (take state_numbers c.args.state.now))) s.written s.read
