-- `put_many_digits`: the library writes the digits. Assumes nothing.
use Rattle.std.proofs.Common.{arith}
use Rattle.print.proofs.Digits.{decimal_same}
use Rattle.print.proofs.Putting.{put_written}
use Rattle.print.proofs.output.Output.put_many_digits.Goals as goal

pub returns-clause-put : goal.returns-clause-put
returns-clause-put c =
    let same = decimal_same c.args.n c.ranges.n.fits in
    let written = rw same at c.write_digits.ensures in
    put_written c.write_digits.result (omega arith) (omega arith) written.start written.written written.before c.write_digits.auto.buf
