-- `put_refusal`: one piece after the other makes the line. Assumes nothing.
use Rattle.print.specs.Lines.{refusal_line}
use Rattle.print.proofs.Putting.{put_then}
use Rattle.print.proofs.output.Output.put_refusal.Goals as goal

pub returns-clause-put : goal.returns-clause-put
unfolding refusal_line
returns-clause-put c = put_then c.put_byte.ensures.put
    (put_then c.put_field.ensures.put (put_then c.put_field-2.ensures.put c.put_byte-2.ensures.put))
