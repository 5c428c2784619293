-- `judge_reading`: checks 1 and 2, and then 10 and 11. Assumes nothing.
use Rattle.std.proofs.Common.{refl, ap, ◌∙◌, List}
use Rattle.std.proofs.lemmas.Result.{err_from_is_err_and}
use Rattle.window.specs.declared.query.Query.{Query}
use Rattle.window.specs.Refusals.{first_refusal, reading_checks}
use Rattle.engine.proofs.Judging.{judged-first, judged-last, held_is}
use Rattle.engine.proofs.checks.judge_reading.Goals as goal

pub returns-in_err-checked-clause-judged : goal.returns-in_err-checked-clause-judged
returns-in_err-checked-clause-judged c =
    let p = err_from_is_err_and c.from_residual.result c.from_residual.ensures.1 in
    rw (p.1, p.2) (judged-first _ _ _ _ _ _ c.in_err-checked.ensures.judged refl)

pub returns-in_err-check_reading-clause-judged : goal.returns-in_err-check_reading-clause-judged
returns-in_err-check_reading-clause-judged c =
    let a = c.args in
    let p = err_from_is_err_and c.from_residual-in_err-check_reading.result c.from_residual-in_err-check_reading.ensures.1 in
    rw (p.1, p.2)
    (judged-last _ _ _ _ _ _ c.in_ok-checked.ensures.judged refl
    (c.in_err-check_reading.ensures
    ∙ ap (λ (qs : List Query). first_refusal (reading_checks a.state.count qs a.places)) (held_is _ _ _ c.in_ok-checked.ensures.passed)))
