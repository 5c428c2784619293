-- `Ring::evict`: the ring is without its oldest so far, all of which start before the horizon. Assumes nothing.
use Rattle.std.proofs.Common.{◌≡◌, ℕ, ◌-◌, ◌<◌, ◌≤◌}
use Rattle.deque.specs.Rings.{place, start_at, advanced}
use Rattle.deque.proofs.ring.Ring.evict.Given as goal

abbrev pub invariant-loop-self : goal.invariant-loop-self
invariant-loop-self l =
    (l.self.len ≤ l.fn.self.len) × (l.self ≡ advanced (l.fn.self.len - l.self.len) l.fn.self)
    × ((j : ℕ) → j < l.fn.self.len - l.self.len → start_at l.starts (place l.fn.self.head j) < l.horizon)

abbrev pub decreases-loop-self : goal.decreases-loop-self
decreases-loop-self l = l.self.len
