-- `finish_lines`: the last line if there is one, then the totals. Assumes nothing.
use Rattle.std.proofs.Common.{sym, ◌∙◌, arith}
use Rattle.session.proofs.Refusing.{open-room}
use Rattle.session.proofs.Finishing.{has_last_lem, no_line, one_line, finishes}
use Rattle.session.proofs.stream.finish_lines.Goals as goal

pub asks-requires : goal.asks-requires
asks-requires c = open-room _ _ c.requires.open

pub end_line-last-requires-clause-few : goal.end_line-last-requires-clause-few
end_line-last-requires-clause-few c = (has_last_lem c.args.session (sym c.has_last.ensures ∙ c.if-not-has_last.false)).0

pub returns-then-not-has_last-clause-finished : goal.returns-then-not-has_last-clause-finished
returns-then-not-has_last-clause-finished c =
    finishes _ _ _ _ _ _ _ c.requires.open
    (no_line c.args.session _ _ _ _ (sym c.has_last.ensures ∙ c.if-not-has_last.true)) c.requires.room
    c.report_totals.ensures.put.as_long (rw c.requires.front at c.report_totals.ensures.put) (omega (arith, c.report_totals.ensures.short, c.requires.front))

pub returns-clause-finished : goal.returns-clause-finished
returns-clause-finished c =
    finishes _ _ _ _ _ _ _ c.requires.open
    (one_line c.args.session _ _ _ _ (sym c.has_last.ensures ∙ c.if-not-has_last.false) c.asks.ensures (rw c.requires.front at c.end_line-last.ensures.ended))
    c.requires.room (c.report_totals-2.ensures.put.as_long ∙ c.end_line-last.ensures.ended.puts.put.as_long) c.report_totals-2.ensures.put c.report_totals-2.ensures.short
