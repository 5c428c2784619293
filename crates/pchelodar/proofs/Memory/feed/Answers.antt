-- `feed`: the write failed, or a call of the session took bytes, or the limit was reached. Assumes nothing.
use Rattle.std.proofs.Common.{arith, ◌∙◌, ap, Err}
use Rattle.std.proofs.lemmas.Result.{err_from_is_err_and}
use Rattle.pchelodar.proofs.Composing.{step_failed, step_fed}
use Rattle.pchelodar.proofs.Memory.feed.Goals as goal

pub returns-in_err-write-clause-fed : goal.returns-in_err-write-clause-fed
returns-in_err-write-clause-fed g c =
    let (e, is, same) = err_from_is_err_and c.from_residual.result c.from_residual.ensures.1 in
    step_failed _ _ _ _ _ _ c.in_err-write.field-0.0 _ (is ∙ ap (λ x. Err x) same) c.in_err-write.ensures.wrote

pub returns-clause-fed : goal.returns-clause-fed
returns-clause-fed g c =
    rw c.write.ensures.held (step_fed _ _ _ _ _ c.after_feed.ensures (omega (arith, c.args.self.now.room)) c.requires.some c.feed-taken.ensures.fed _ c.in_ok-write.ensures.wrote)
