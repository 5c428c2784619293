-- `put_answer`: one piece after the other makes the line. Assumes nothing.
use Rattle.std.proofs.Common.{to_z-of_z}
use Rattle.print.specs.Lines.{answer_line}
use Rattle.print.proofs.Putting.{put_then}
use Rattle.print.proofs.output.Output.put_answer.Goals as goal

pub returns-clause-put : goal.returns-clause-put
unfolding answer_line
returns-clause-put c =
    let value = rw (to_z-of_z c.ranges.value) at c.put_signed_field.ensures.put in
    put_then c.put_byte.ensures.put
    (put_then c.put_field.ensures.put
    (put_then c.put_field-2.ensures.put
    (put_then c.put_field-3.ensures.put (put_then c.put_field-4.ensures.put (put_then value c.put_byte-2.ensures.put)))))
