-- `Deque::close`: so many went, at one comparison each, and dropping on from what is left leaves what dropping from all
-- leaves. Assumes nothing.
use Rattle.std.proofs.Common.{◌≡◌, ◌+◌, ◌-◌, ◌≤◌}
use Rattle.deque.specs.Rings.{entry_with}
use Rattle.deque.specs.Extremes.{order_of, entries_of, trimmed}
use Rattle.deque.proofs.Rings.{ring_of}
use Rattle.deque.proofs.extremes.Deque.close.Given as goal

abbrev pub invariant-loop-newest : goal.invariant-loop-newest
invariant-loop-newest l =
    (l.len ≤ l.self.ring.len) × (l.total ≡ l.initial.total + (l.self.ring.len - l.len))
    × (trimmed (order_of l.extreme) (entry_with l.start l.value) (entries_of l.starts l.values (ring_of l.self.ring.head l.len))
    ≡ trimmed (order_of l.extreme) (entry_with l.start l.value) (entries_of l.starts l.values l.self.ring))

abbrev pub decreases-loop-newest : goal.decreases-loop-newest
decreases-loop-newest l = l.len
