-- `put_field`: a tab, then the digits. Assumes nothing.
use Rattle.print.proofs.Putting.{put_then}
use Rattle.print.proofs.output.Output.put_field.Goals as goal

pub returns-clause-put : goal.returns-clause-put
returns-clause-put c = put_then c.put_byte.ensures.put c.put_digits.ensures.put
