-- `place_all`: what `insert` asks of the list. Assumes nothing.
use Rattle.std.proofs.Common.{arith}
use Rattle.records.proofs.Laying.{placed_ready}
use Rattle.records.proofs.laid.place_all.Goals as goal

pub insert-requires : goal.insert-requires
insert-requires c =
    let l = c.loop-i in placed_ready c.args.numbers.now c.requires.0 l.i l.numbers (omega arith) l.invariant
