-- `read_all`: each read but the last brought bytes that were fed. Assumes nothing.
use Rattle.std.proofs.Common.{arith, rules, ◌∙◌, ap, Err}
use Rattle.std.proofs.lemmas.Result.{err_from_is_err_and}
use Rattle.pchelodar.proofs.Composing.{reads_none, read_more, read_ended, read_stopped, reads_spent}
use Rattle.pchelodar.proofs.Memories.{memory_same}
use Rattle.pchelodar.proofs.Memory.read_all.Goals as goal

pub loop-init : goal.loop-init
loop-init g c = record { same = memory_same _; told = λ t. t; fed = reads_none _ _ }

pub returns-in_err-after_read-clause-read : goal.returns-in_err-after_read-clause-read
returns-in_err-after_read-clause-read g c =
    let (e, is, same) = err_from_is_err_and c.from_residual.result c.from_residual.ensures.1 in
    read_stopped _ _ _ _ c.read-got.result _ c.in_err-after_read.field-0.0 _ (is ∙ ap (λ x. Err x) same) c.loop.invariant.fed c.in_err-after_read.ensures.fed
    c.in_err-after_read.ensures.heard
    c.read-got.ensures.bytes

pub returns-then-branch-eq0-clause-read : goal.returns-then-branch-eq0-clause-read
returns-then-branch-eq0-clause-read g c =
    read_ended _ _ _ _ c.read-got.result _ c.in_ok-after_read.field-0 (omega arith) (omega arith) c.loop.invariant.fed c.in_ok-after_read.ensures.fed c.in_ok-after_read.ensures.heard
    c.read-got.ensures.bytes

pub loop-preserved : goal.loop-preserved
loop-preserved g c = record {
  same = search rules;
  told = λ t. c.in_ok-after_read.ensures.told (c.loop.invariant.told t);
  fed = read_more _ _ _ c.read-got.result _ c.in_ok-after_read.field-0 (omega arith) (omega arith) c.loop.invariant.fed c.in_ok-after_read.ensures.fed c.in_ok-after_read.ensures.heard c.read-got.ensures.bound
      c.read-got.ensures.bytes;
}

pub returns-clause-read : goal.returns-clause-read
returns-clause-read g c = reads_spent _ _ _ (omega arith) c.loop.invariant.fed
