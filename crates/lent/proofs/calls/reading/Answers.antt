-- `reading`: the list is too short, or the engine takes the reading or refuses it. Assumes nothing.
use Rattle.std.proofs.Common.{refl, to_z-of_z}
use Rattle.lent.proofs.Lending.{reading-lent}
use Rattle.lent.proofs.calls.reading.Goals as goal

pub returns-clause-called : goal.returns-clause-called
returns-clause-called c =
    let h = c.in_ok-numbers.ensures in
    record {
      on_lent = reading-lent _ _ _ h.0 _ _ _ _ _ _ (rw (h.1, to_z-of_z c.ranges.value) at c.reading.ensures.called);
      places = c.reading.ensures.called.places;
      records = refl;
    }
