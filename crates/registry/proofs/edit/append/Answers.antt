-- `append`: the record is written, and its place put in order. Assumes nothing.
use Rattle.std.proofs.Common.{arith}
use Rattle.registry.proofs.Joining.{written_ready, written-joined}
use Rattle.registry.proofs.edit.append.Goals as goal

pub insert-requires : goal.insert-requires
insert-requires c =
    let a = c.args in
    written_ready a.k a.q a.list.now c.put_query.new.list (omega arith) (omega arith) c.requires.2 c.put_query.ensures

pub returns : goal.returns
returns c =
    let a = c.args in
    let joined = written-joined a.k a.q a.list.now c.put_query.new.list c.insert.new.list (omega arith) (omega arith) c.requires.2 c.put_query.ensures c.insert.ensures in
    record { is = joined.0; appended = joined.1 }
