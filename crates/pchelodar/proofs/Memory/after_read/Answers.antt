-- `after_read`: where bytes were brought, they were fed, or the run ends. Assumes nothing.
use Rattle.std.proofs.Common.{arith, refl, ◌∙◌, ap, Err}
use Rattle.std.proofs.lemmas.Result.{err_from_is_err_and}
use Rattle.pchelodar.proofs.Composing.{read_on, after_fed, after_stopped, heard_stopped}
use Rattle.pchelodar.proofs.Memory.after_read.Goals as goal

pub returns-in_err-feed_chunk-clause-fed : goal.returns-in_err-feed_chunk-clause-fed
returns-in_err-feed_chunk-clause-fed g c =
    let (e, is, same) = err_from_is_err_and c.from_residual-in_err-feed_chunk.result c.from_residual-in_err-feed_chunk.ensures.1 in
    after_stopped c.args.got _ _ _ _ _ c.in_ok-count.count (read_on _ _ _ refl c.in_ok-count.ensures.cases) (omega arith) c.in_err-feed_chunk.field-0.0 _ (is ∙ ap (λ x. Err x) same) c.in_err-feed_chunk.ensures.fed

pub returns-in_err-feed_chunk-clause-heard : goal.returns-in_err-feed_chunk-clause-heard
returns-in_err-feed_chunk-clause-heard g c =
    let (e, is, same) = err_from_is_err_and c.from_residual-in_err-feed_chunk.result c.from_residual-in_err-feed_chunk.ensures.1 in
    heard_stopped c.args.got _ _ _ _ _ c.in_ok-count.count (read_on _ _ _ refl c.in_ok-count.ensures.cases) (omega arith) c.in_err-feed_chunk.field-0.0 _ (is ∙ ap (λ x. Err x) same) c.in_err-feed_chunk.ensures.fed

pub returns-clause-fed : goal.returns-clause-fed
returns-clause-fed g c = after_fed c.args.got _ _ _ _ _ c.in_ok-count.count (read_on _ _ _ refl c.in_ok-count.ensures.cases) (omega arith) _ c.in_ok-feed_chunk.ensures.fed
