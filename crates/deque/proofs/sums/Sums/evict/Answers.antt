-- `Sums::evict`: of the partials those are left that eviction leaves, and the numbers of the table stay. Assumes nothing.
use Rattle.deque.proofs.Laps.{fits_evicted, partials_evicted, bounds_evicted}
use Rattle.deque.proofs.sums.Sums.evict.Goals as goal

pub returns-clause-fits : goal.returns-clause-fits
returns-clause-fits c = fits_evicted c.args.starts.now c.args.self c.args.horizon _ c.evict-self.ensures.evicted c.requires.0

pub returns-clause-entries : goal.returns-clause-entries
returns-clause-entries c = partials_evicted c.args.starts.now c.args.self c.args.horizon _ c.evict-self.ensures.evicted

pub returns-clause-bounds : goal.returns-clause-bounds
returns-clause-bounds c = bounds_evicted c.args.starts.now c.args.self c.args.horizon _ c.evict-self.ensures.evicted
