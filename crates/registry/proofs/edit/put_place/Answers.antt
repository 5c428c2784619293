-- `put_place`: what is carried is put, and what stood there is carried on. Assumes nothing.
use Rattle.std.proofs.Common.{◌∙◌, arith}
use Rattle.registry.proofs.Shifting.{shift_start, carried_start, carried_next, shift_next, shift_done}
use Rattle.registry.proofs.edit.put_place.Goals as goal

pub loop-j-init : goal.loop-j-init
loop-j-init c =
    let a = c.args in (
      omega arith,
      omega arith,
      shift_start a.k a.r a.list.now (omega arith) (omega arith) (omega arith),
      λ _. carried_start a.k a.r a.list.now (omega arith) (omega arith) (omega arith),
    )

pub loop-j-preserved : goal.loop-j-preserved
loop-j-preserved c =
    let a = c.args in
    let l = c.loop-j in
    let put = c.replace-carried in (
      omega arith,
      omega arith,
      shift_next a.k a.r a.list.now (omega arith) (omega arith) (omega arith) l.j l.list (omega arith) (omega arith) l.invariant.2 put.new.dest (put.ensures.after ∙ l.invariant.3 (omega arith)),
      λ more. put.ensures.value ∙ carried_next a.k a.r a.list.now (omega arith) (omega arith) (omega arith) l.j l.list (omega arith) (omega arith) l.invariant.2 more,
    )

pub returns : goal.returns
returns c =
    let a = c.args in
    let l = c.loop-j in
    shift_done a.k a.r a.list.now (omega arith) (omega arith) (omega arith) l.j l.list (omega arith) (omega arith) l.invariant.2
