-- `Query::edge`: where the phase is no multiple of the slide, the range is added to its remainder. Assumes nothing.
use Rattle.std.proofs.Common.{sym}
use Rattle.window.proofs.Queries.{edge_elsewhere}
use Rattle.window.proofs.query.Query.edge.Goals as goal

pub returns : goal.returns
returns c =
    rw (c.from.ensures, c.from-slide.ensures)
    (sym (edge_elsewhere _ _ _ c.phase.ensures c.if-m-self.false (λ e. c.if-rest-eq0.false (rw c.from-slide.ensures e))))
