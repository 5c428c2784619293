-- `lay`: the first 32 records of a list that is long enough are all its own. Assumes nothing.
use Rattle.std.proofs.Common.{ap, ◌∙◌}
use Rattle.records.specs.Laid.{laid}
use Rattle.records.proofs.Lists.{first-long}
use Rattle.lent.proofs.calls.lay.Goals as goal

pub returns : goal.returns
returns c =
    let long = c.if-queries-lt-RECORDS.false in
    (long, c.laid.ensures ∙ ap (laid c.args.registered) (c.load.ensures ∙ first-long c.args.queries.now long))
