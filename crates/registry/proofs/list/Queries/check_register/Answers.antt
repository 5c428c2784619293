-- `check_register`: where a field is refused that decides. Assumes nothing.
use Rattle.std.proofs.lemmas.Result.{err_from_is_err_and}
use Rattle.registry.proofs.Verdicts.{register_field}
use Rattle.registry.proofs.list.Queries.check_register.Goals as goal

pub returns-in_err-check_fields : goal.returns-in_err-check_fields
returns-in_err-check_fields c =
    let a = c.args in
    let p = err_from_is_err_and c.from_residual.result c.from_residual.ensures.1 in
    rw (p.1, p.2) (register_field a.self.used a.self.list.now a.asked.number a.asked.kind a.asked.range a.asked.slide _ c.in_err-check_fields.ensures)
