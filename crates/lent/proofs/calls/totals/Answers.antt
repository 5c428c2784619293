-- `totals`: the list is too short, or the engine gives its totals or refuses. Assumes nothing.
use Rattle.lent.proofs.Lending.{totals-lent}
use Rattle.lent.proofs.calls.totals.Goals as goal

pub returns : goal.returns
returns c =
    let h = c.in_ok-numbers.ensures in
    totals-lent _ _ _ h.0 _ (rw h.1 at c.totals.ensures)
