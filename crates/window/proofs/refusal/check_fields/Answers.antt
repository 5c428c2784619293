-- `check_fields`: where number and kind are refused that decides, and otherwise range and slide. Assumes nothing.
use Rattle.std.proofs.Common.{sym, ◌∙◌}
use Rattle.std.proofs.lemmas.Result.{err_from_is_err_and}
use Rattle.window.specs.Refusals.{name_checks, length_checks, field_checks}
use Rattle.window.proofs.Refusals.{passed_any, passed_then, refused_then}
use Rattle.window.proofs.refusal.check_fields.Goals as goal

pub returns-in_err-check_name : goal.returns-in_err-check_name
unfolding field_checks
returns-in_err-check_name c =
    let a = c.args.asked in
    let p = err_from_is_err_and c.from_residual.result c.from_residual.ensures.1 in
    rw (p.1, p.2) (sym (refused_then (name_checks a.number a.kind) (length_checks a.range a.slide) _ (sym c.in_err-check_name.ensures)))

pub returns : goal.returns
unfolding field_checks
returns c =
    let a = c.args.asked in
    let passed = passed_any (name_checks a.number a.kind) (sym c.in_ok-check_name.ensures) in
    c.check_lengths.ensures ∙ sym (passed_then (name_checks a.number a.kind) (length_checks a.range a.slide) passed)
