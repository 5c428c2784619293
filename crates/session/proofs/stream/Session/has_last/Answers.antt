-- `Session::has_last`: one test after the other. Assumes nothing.
use Rattle.session.proofs.Finishing.{last_by_byte, last_unnumbered}
use Rattle.session.proofs.stream.Session.has_last.Goals as goal

pub returns-then-self-le-LINE_LIMIT : goal.returns-then-self-le-LINE_LIMIT
returns-then-self-le-LINE_LIMIT c = last_by_byte c.args.self c.if-self-le-LINE_LIMIT.true

pub returns-else-self-le-LINE_LIMIT : goal.returns-else-self-le-LINE_LIMIT
returns-else-self-le-LINE_LIMIT c = last_unnumbered c.args.self c.if-self-le-LINE_LIMIT.false
