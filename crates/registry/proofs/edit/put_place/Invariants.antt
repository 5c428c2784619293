-- `put_place`: the first j places are the new ones, those behind them are as they were, and what is carried is the new
-- one at j. Assumes nothing.
use Rattle.std.proofs.Common.{◌+◌, ◌≡◌, ◌≤◌, get_or}
use lib.Seq.{paste}
use Rattle.registry.specs.Records.{order_at, order}
use Rattle.registry.proofs.Ordering.{with_place_at}
use Rattle.registry.proofs.edit.put_place.Given as goal

abbrev pub invariant-loop-j : goal.invariant-loop-j
invariant-loop-j l =
    let lent = l.fn.list in
    let new = with_place_at l.k l.r (order l.k lent) in
    (l.r ≤ l.j) × (l.j ≤ l.k + 1) × (l.list ≡ paste lent order_at new l.j) × (l.j ≤ l.k → l.carried ≡ get_or new l.j 0)
