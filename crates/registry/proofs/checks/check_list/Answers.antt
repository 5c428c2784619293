-- `check_list`: a list that passes has its fields within their limits. Assumes nothing.
use Rattle.std.proofs.Common.{sym, ◌∙◌}
use Rattle.registry.proofs.Intact.{fits_limits_at}
use Rattle.registry.proofs.checks.check_list.Goals as goal

pub invariant_of-result : goal.invariant_of-result
invariant_of-result c =
    let a = c.args in record { limits = fits_limits_at a.n a.used a.list.now (sym c.whole.ensures ∙ c.if-not-whole.false) }
