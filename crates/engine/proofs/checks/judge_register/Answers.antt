-- `judge_register`: checks 1 and 2, and then 3 to 8. Assumes nothing.
use Rattle.std.proofs.Common.{refl, sym, ap, ◌∙◌, subst, ◌≤◌, List}
use Rattle.std.proofs.lemmas.Result.{err_from_is_err_and}
use Rattle.window.specs.declared.query.Query.{Query}
use Rattle.window.specs.Lists.{Each}
use Rattle.window.specs.Refusals.{first_refusal, register_checks}
use Rattle.registry.proofs.Intact.{fits_origins}
use Rattle.engine.proofs.Judging.{judged-first, judged_passed, judged-last, held_is}
use Rattle.engine.proofs.checks.judge_register.Goals as goal

pub returns-in_err-queries-clause-judged : goal.returns-in_err-queries-clause-judged
returns-in_err-queries-clause-judged c =
    let p = err_from_is_err_and c.from_residual.result c.from_residual.ensures.1 in
    rw (p.1, p.2) (judged-first _ _ _ _ _ _ c.in_err-queries.ensures.judged refl)

pub returns-in_err-check_register-clause-judged : goal.returns-in_err-check_register-clause-judged
returns-in_err-check_register-clause-judged c =
    let q = c.args.asked in
    let p = err_from_is_err_and c.from_residual-in_err-check_register.result c.from_residual-in_err-check_register.ensures.1 in
    rw (p.1, p.2)
    (judged-last _ _ _ _ _ _ c.in_ok-queries.ensures.judged refl
    (c.in_err-check_register.ensures
    ∙ ap (λ (qs : List Query). first_refusal (register_checks qs q.number q.kind q.range q.slide)) (held_is _ _ _ c.in_ok-queries.ensures.passed)))

pub horizon-requires : goal.horizon-requires
horizon-requires c =
    let st = c.args.state in
    subst (Each (λ (q : Query). q.origin ≤ st.count)) (sym (held_is _ _ _ c.in_ok-queries.ensures.passed))
    (fits_origins st.count st.registered c.args.list.now (judged_passed _ _ _ _ _ c.in_ok-queries.ensures.judged refl).1.list)
