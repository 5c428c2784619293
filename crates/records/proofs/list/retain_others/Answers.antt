-- `retain_others`: record i is kept, or left out. Assumes nothing.
use Rattle.std.proofs.Common.{not, ap, arith, get_or, ne_eqb, eq-eqb}
use Rattle.std.proofs.lemmas.List.{get_or_default}
use Rattle.std.proofs.lemmas.List.Filters.{FiltersInPlace-more_no, FiltersInPlace-more_set}
use Rattle.registry.specs.Records.{unused}
use Rattle.records.proofs.list.retain_others.Goals as goal
use Rattle.records.proofs.list.retain_others.Goals.{then-number-q, else-number-q}

pub loop-i-preserved : goal.loop-i-preserved
loop-i-preserved c =
    let l = c.loop-i in
    let read = get_or_default l.records l.i unused (get_or l.records l.i unused) (omega arith) in
    elim c.if-number-q.branch [
      | then-number-q w ↦ rw (w.records-is, w.kept-is) (FiltersInPlace-more_set l.invariant (omega arith) (ap not (ne_eqb _ _ w.if-number-q.true)) read)
      | else-number-q w ↦ rw (w.records-is, w.kept-is) (FiltersInPlace-more_no l.invariant (omega arith) (ap not (eq-eqb _ _ w.if-number-q.false)) read)
    ]
