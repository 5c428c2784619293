-- `Starts::bisect`: the entry before `low` starts before `from`, and that at `high` does not. Assumes nothing.
use Rattle.std.proofs.Common.{◌-◌, ◌<◌, ◌≤◌}
use Rattle.deque.specs.Rings.{place, start_at}
use Rattle.deque.proofs.starts.Starts.bisect.Given as goal

abbrev pub invariant-loop-low : goal.invariant-loop-low
invariant-loop-low l =
    (l.low ≤ l.high) × (l.high ≤ l.self.ring.len)
    × (0 < l.low → start_at l.self.table.now (place l.self.ring.head (l.low - 1)) < l.from)
    × (l.high < l.self.ring.len → l.from ≤ start_at l.self.table.now (place l.self.ring.head l.high))

abbrev pub decreases-loop-low : goal.decreases-loop-low
decreases-loop-low l = l.high - l.low
