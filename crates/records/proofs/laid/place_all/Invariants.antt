-- `place_all`: the places of the first i records are in order. Assumes nothing.
use Rattle.std.proofs.Common.{◌≡◌}
use Rattle.records.specs.Laid.{placed}
use Rattle.records.proofs.laid.place_all.Given as goal

abbrev pub invariant-loop-i : goal.invariant-loop-i
invariant-loop-i l = l.numbers ≡ placed l.i l.initial.numbers
