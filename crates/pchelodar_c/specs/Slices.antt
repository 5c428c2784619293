-- What the caller holds between two calls where everything is lent as numbers.
-- Assumes nothing.
use Rattle.std.specs.Prelude.{ℕ, Bool, ◌&&◌, List, leb, length, take}
use Rattle.board.specs.Tables.{Tables}
use Rattle.engine.specs.Machine.{Machine, machine, machine_long}
use Rattle.encoding.specs.Written.{state_numbers, state_of}

-- the numbers of the state, the query list, and the six tables
pub record Slices : Type 0 where
  pub state : List ℕ
  pub queries : List ℕ
  pub tables : Tables

-- the three, in this order
abbrev pub slices : List ℕ → List ℕ → Tables → Slices
slices w ns t = record { state = w; queries = ns; tables = t }

-- what the caller holds, as the engine holds it: the state is read from its numbers, list and tables are as they stand
abbrev pub slices_machine : Slices → Machine
slices_machine m = machine (state_of (take state_numbers m.state)) m.queries m.tables

-- there are places for the numbers of a state
abbrev pub state_long : Slices → Bool
state_long m = leb state_numbers (length m.state)

-- check 1, on the state, the query list and the six tables
abbrev pub slices_long : Slices → Bool
slices_long m = state_long m && machine_long (slices_machine m)
