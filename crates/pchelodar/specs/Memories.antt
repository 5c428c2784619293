-- What a run's memory holds.
-- Assumes nothing.
use Rattle.std.specs.Prelude.{◌≡◌}
use Rattle.board.specs.Lending.{lent_lists, SameSlices}
use Rattle.session.specs.Promises.{Held, held}
use Rattle.pchelodar.specs.declared.Memory.{Memory}

-- the session, and what is lent to it
abbrev pub held_of : Memory → Held
held_of m = held m.session m.list.now m.line.now (lent_lists m.tables)

-- all that is lent is where it was, so that its lender finds in it what was written
pub record SameMemory (before after : Memory) : Type 0 where
  pub list : after.list.ghost_name ≡ before.list.ghost_name
  pub line : after.line.ghost_name ≡ before.line.ghost_name
  pub tables : SameSlices before.tables after.tables
  pub out : after.out.ghost_name ≡ before.out.ghost_name
