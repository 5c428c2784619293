-- `Board::close`: the three rings are evicted, and then close one after the other, each on its own tables.
-- Assumes nothing.
use Rattle.std.proofs.Common.{refl, ap, rules, w32}
use Rattle.std.proofs.Math.Facts.{to_z-of_z}
use Rattle.board.specs.Tables.{Tables}
use Rattle.board.specs.Lending.{lent_lists}
use Rattle.board.proofs.Lending.{long_each}
use Rattle.board.proofs.Fitting.{total-fits, sum_is, sums-closed, deque_closed}
use Rattle.board.proofs.Holding.{closed-holds}
use Rattle.board.proofs.board.Board.close.Goals as goal

pub close-requires-2 : goal.close-requires-2
close-requires-2 c =
    let a = c.args in
    let long = long_each (lent_lists a.tables.now) c.requires.3 in
    let e = c.evict-maxima.ensures in
    (e.fits, long.max_starts, long.max_values, rw e.cost (total-fits a.self.closed a.self.maxima.comparisons c.requires.1 c.requires.0.max_total))

pub close-requires-3 : goal.close-requires-3
close-requires-3 c =
    let a = c.args in
    let long = long_each (lent_lists a.tables.now) c.requires.3 in
    let e = c.evict-minima.ensures in
    (e.fits, long.min_starts, long.min_values, rw e.cost (total-fits a.self.closed a.self.minima.comparisons c.requires.1 c.requires.0.min_total))

pub returns-clause-closed : goal.returns-clause-closed
returns-clause-closed c =
    let g = c.args in
    let t = lent_lists g.tables.now in
    let a = g.a in
    let s = c.shared-before.ensures in
    let p = c.close in
    let x = c.close-2 in
    let n = c.close-3 in
    let ep = c.evict-partials.ensures in
    let ex = c.evict-maxima.ensures in
    let en = c.evict-minima.ensures in
    record {
      usable = record { sums = p.ensures.fits; max_ring = x.ensures.fits; min_ring = n.ensures.fits };
      counted = refl;
      holds = closed-holds a g.horizon _ _ _ _ (record {
        closed = refl;
        fits = p.ensures.fits;
        sums = sums-closed a.start (sum_is a.sum c.requires.2) (rw (ap (λ (x : Tables). x.starts) s) at (ep.entries t.sums)) p.ensures.entries;
        bounds = λ b. p.ensures.bounds (ep.bounds t.sums b);
        maxima = deque_closed (to_z-of_z {w = w32} {z = a.maximum} (search rules)) (rw (ap (λ (x : Tables). x.max_starts) s) at (ex.entries t.max_values)) ex.cost (record { fits = x.ensures.fits; entries = x.ensures.entries; cost = x.ensures.cost });
        minima = deque_closed (to_z-of_z {w = w32} {z = a.minimum} (search rules)) (rw (ap (λ (x : Tables). x.min_starts) s) at (en.entries t.min_values)) en.cost (record { fits = n.ensures.fits; entries = n.ensures.entries; cost = n.ensures.cost });
      });
      kept = record {
        starts = record { as_long = p.auto.starts; beyond = p.ensures.beyond.0 };
        sums = record { as_long = p.auto.sums; beyond = p.ensures.beyond.1 };
        max_starts = record { as_long = x.auto.starts; beyond = x.ensures.beyond.0 };
        max_values = record { as_long = x.auto.values; beyond = x.ensures.beyond.1 };
        min_starts = record { as_long = n.auto.starts; beyond = n.ensures.beyond.0 };
        min_values = record { as_long = n.auto.values; beyond = n.ensures.beyond.1 };
      };
    }
