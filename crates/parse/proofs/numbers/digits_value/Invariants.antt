-- `digits_value`: the digits passed make n, and with those that are left the number. Assumes nothing.
use Rattle.std.proofs.Common.{◌≡◌, drop}
use Rattle.parse.specs.Numbers.{digits_value}
use Rattle.parse.proofs.numbers.digits_value.Given as goal

abbrev pub invariant-loop-b : goal.invariant-loop-b
invariant-loop-b l = digits_value l.n (drop l.b-index l.s) ≡ digits_value 0 l.s
