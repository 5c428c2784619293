-- `holds`: a query is registered where it has a place. Assumes nothing.
use Rattle.std.proofs.Common.{sym, ap, ◌∙◌}
use Rattle.std.specs.Option.{is_some}
use Rattle.registry.specs.Held.{held}
use Rattle.registry.proofs.Finding.{registered-at}
use Rattle.registry.proofs.list.Queries.holds.Goals as goal

pub returns : goal.returns
returns c = c.is_some.ensures ∙ ap is_some c.find.ensures ∙ sym (registered-at c.args.number (held c.args.self))
