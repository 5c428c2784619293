-- `withdraw`: the query at i leaves, or joins anew behind those that were kept. Assumes nothing.
use Rattle.std.proofs.Common.{arith}
use Rattle.registry.proofs.Joining.{leaving-start, leaving-left, leaving-kept, leaving-done}
use Rattle.registry.proofs.edit.withdraw.Goals as goal
use Rattle.registry.proofs.edit.withdraw.Goals.{then-number-q, else-number-q}

pub loop-i-init : goal.loop-i-init
loop-i-init c = leaving-start c.args.number c.args.k c.args.list.now

pub loop-i-preserved : goal.loop-i-preserved
loop-i-preserved c =
    let a = c.args in
    let l = c.loop-i in
    let q = c.query-q in
    let next = c.if-number-q in
    elim next.branch [
      | then-number-q w ↦
          leaving-kept a.number a.k a.list.now l.kept l.i l.list l.invariant (omega arith) (omega arith) q.result q.ensures next.kept next.list
          w.append.new.list w.if-number-q.true w.append.ensures.appended w.list-is w.kept-is
      | else-number-q w ↦
          leaving-left a.number a.k a.list.now l.kept l.i l.list l.invariant (omega arith) (omega arith) q.result q.ensures next.kept next.list
          w.if-number-q.false w.list-is w.kept-is
    ]

pub returns : goal.returns
returns c =
    let a = c.args in
    let l = c.loop-i in
    leaving-done a.number a.k a.list.now l.kept l.i l.list c.clear.new.list l.invariant (omega arith) c.clear.ensures
