-- `Session::refuses`: totals are refused by checks 1 and 2 alone. Assumes nothing.
use Rattle.session.proofs.Refusing.{refused_as}
use Rattle.session.proofs.stream.Session.refuses.Goals as goal

pub returns-else-room-lt-KEPT : goal.returns-else-room-lt-KEPT
returns-else-room-lt-KEPT c = refused_as _ _ _ c.totals.ensures c.if-room-lt-KEPT.false _ c.is_err.ensures.value
