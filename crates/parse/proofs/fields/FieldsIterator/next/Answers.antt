-- `Fields::next`: the field ends at the next tab, or at the line's end. Assumes nothing.
use Rattle.std.proofs.Common.{arith, refl, ap, length, rules}
use Rattle.std.proofs.lemmas.List.{length-take-le}
use Rattle.parse.proofs.Scanning.{fields_beyond, fields_first}
use Rattle.parse.proofs.fields.FieldsIterator.next.Goals as goal

pub returns-in_err-rest-clause-steps : goal.returns-in_err-rest-clause-steps
returns-in_err-rest-clause-steps c = rw c.from_residual.ensures (fields_beyond _ _ (omega (arith, c.in_err-rest.ensures)), refl)

pub returns : goal.returns
returns c =
    let here = c.in_ok-rest.ensures.lookup.0 in
    let first = fields_first _ _ _ _ here.0 here.2 c.find_byte.ensures c.unwrap_or-length.ensures in
    let fewer = ap length first.1 in
    record { steps = (first.1, refl, omega (arith, length-take-le _ _ first.0)); goes = search rules }
