-- `digit_count`: a short number by its bounds. Assumes nothing.
use Rattle.std.proofs.Common.{arith}
use Rattle.print.proofs.Digits.{decimal_counted}
use Rattle.print.proofs.output.digit_count.Goals as goal

pub returns-in-10-to-99 : goal.returns-in-10-to-99
returns-in-10-to-99 c = omega (arith, decimal_counted 1 c.args.n c.ranges.n.fits (omega arith) (omega arith))

pub returns-in-100-to-999 : goal.returns-in-100-to-999
returns-in-100-to-999 c = omega (arith, decimal_counted 2 c.args.n c.ranges.n.fits (omega arith) (omega arith))

pub returns-in-1000-to-9999 : goal.returns-in-1000-to-9999
returns-in-1000-to-9999 c = omega (arith, decimal_counted 3 c.args.n c.ranges.n.fits (omega arith) (omega arith))
