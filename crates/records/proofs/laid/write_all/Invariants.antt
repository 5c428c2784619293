-- `write_all`: the first i records are written. Assumes nothing.
use Rattle.std.proofs.Common.{◌≡◌}
use Rattle.records.specs.Laid.{written}
use Rattle.records.proofs.laid.write_all.Given as goal

abbrev pub invariant-loop-i : goal.invariant-loop-i
invariant-loop-i l = l.numbers ≡ written l.i l.q-items l.initial.numbers
