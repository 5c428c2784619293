-- The lent tables, as the lists that stand in them.
-- Assumes nothing.
use Rattle.std.specs.Prelude.{◌≡◌}
use Rattle.board.specs.declared.tables.LentTables.{LentTables}
use Rattle.board.specs.declared.tables.SharedTables.{SharedTables}
use Rattle.board.specs.Tables.{Tables, tables}

-- what stands in tables that are lent to be written
abbrev pub lent_lists : LentTables → Tables
lent_lists t = tables t.starts.now t.sums.now t.max_starts.now t.max_values.now t.min_starts.now t.min_values.now

-- what stands in tables that are lent to be read
abbrev pub shared_lists : SharedTables → Tables
shared_lists t = tables t.starts.now t.sums.now t.max_starts.now t.max_values.now t.min_starts.now t.min_values.now

-- the six are the slices that they were, so that their lender finds in them what was written
pub record SameSlices (before after : LentTables) : Type 0 where
  pub starts : after.starts.ghost_name ≡ before.starts.ghost_name
  pub sums : after.sums.ghost_name ≡ before.sums.ghost_name
  pub max_starts : after.max_starts.ghost_name ≡ before.max_starts.ghost_name
  pub max_values : after.max_values.ghost_name ≡ before.max_values.ghost_name
  pub min_starts : after.min_starts.ghost_name ≡ before.min_starts.ghost_name
  pub min_values : after.min_values.ghost_name ≡ before.min_values.ghost_name
