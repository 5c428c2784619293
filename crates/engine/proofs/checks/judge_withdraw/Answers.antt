-- `judge_withdraw`: checks 1 and 2, and then 9. Assumes nothing.
use Rattle.std.proofs.Common.{refl, ap, ◌∙◌, List}
use Rattle.std.proofs.lemmas.Result.{err_from_is_err_and}
use Rattle.window.specs.declared.query.Query.{Query}
use Rattle.window.specs.Refusals.{first_refusal, withdraw_checks}
use Rattle.engine.proofs.Judging.{judged-first, judged-last, held_is}
use Rattle.engine.proofs.checks.judge_withdraw.Goals as goal

pub returns-in_err-queries : goal.returns-in_err-queries
returns-in_err-queries c =
    let p = err_from_is_err_and c.from_residual.result c.from_residual.ensures.1 in
    rw (p.1, p.2) (judged-first _ _ _ _ _ _ c.in_err-queries.ensures.judged refl)

pub returns : goal.returns
returns c =
    judged-last _ _ _ _ _ _ c.in_ok-queries.ensures.judged refl
    (c.check_withdraw.ensures
    ∙ ap (λ (qs : List Query). first_refusal (withdraw_checks qs c.args.number)) (held_is _ _ _ c.in_ok-queries.ensures.passed))
