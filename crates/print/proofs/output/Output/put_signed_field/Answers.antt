-- `put_signed_field`: a tab, the sign if there is one, then the digits. Assumes nothing.
use Rattle.std.proofs.Common.{to_z-of_z, arith}
use Rattle.std.proofs.lemmas.Int.{ints}
use Rattle.print.proofs.Digits.{minus-text, plain_text}
use Rattle.print.proofs.Putting.{put_then}
use Rattle.print.proofs.output.Output.put_signed_field.Goals as goal
use Rattle.print.proofs.output.Output.put_signed_field.Goals.{then-is_negative, else-is_negative}

pub returns-clause-put : goal.returns-clause-put
returns-clause-put c =
    let same = to_z-of_z c.ranges.z in
    let size = rw same at c.unsigned_abs.ensures.value in
    elim c.if-is_negative.branch [
      | then-is_negative w ↦ let digits = rw (w.self-is, size) at c.put_digits.ensures.put in
          rw (← minus-text c.args.z (grind (arith, ints, to_z-of_z))) (put_then c.put_byte.ensures.put (put_then w.put_byte-then-is_negative.ensures.put digits))
      | else-is_negative w ↦ let digits = rw (w.self-is, size) at c.put_digits.ensures.put in
          rw (← plain_text c.args.z (grind (arith, ints, to_z-of_z))) (put_then c.put_byte.ensures.put digits)
    ]
