-- `put_digits`: one digit is one byte. Assumes nothing.
use Rattle.std.proofs.Common.{arith}
use Rattle.print.proofs.Digits.{decimal-small}
use Rattle.print.proofs.output.Output.put_digits.Goals as goal

pub returns-then-n-lt10-clause-put : goal.returns-then-n-lt10-clause-put
returns-then-n-lt10-clause-put c = rw (decimal-small c.args.n (omega arith)) c.put_byte.ensures.put
