-- What the caller holds between two calls where the query list is lent as records (document 01, "The board").
-- Assumes nothing.
use Rattle.std.specs.Prelude.{Bool, ◌&&◌, List, leb, length, take}
use Rattle.window.specs.declared.query.Query.{Query}
use Rattle.registry.specs.Records.{record_limit}
use Rattle.records.specs.Laid.{laid}
use Rattle.board.specs.Tables as tables
use Rattle.board.specs.Tables.{Tables}
use Rattle.engine.specs.declared.state.State.{State}
use Rattle.engine.specs.Machine.{Machine, machine}

-- what goes by value, the lent query list, and the six tables
pub record Lent : Type 0 where
  pub state : State
  pub records : List Query
  pub tables : Tables

-- the three, in this order
abbrev pub lent : State → List Query → Tables → Lent
lent st qs t = record { state = st; records = qs; tables = t }

-- check 1 on the query list: it has 32 places or more
abbrev pub list_long : Lent → Bool
list_long m = leb record_limit (length m.records)

-- check 1, on all seven tables
abbrev pub lent_long : Lent → Bool
lent_long m = list_long m && tables.tables_long m.tables

-- the machine of the layer below, with these records, which it is lent as numbers
abbrev pub machine_with : State → List Query → Tables → Machine
machine_with st list t = machine st (laid st.registered list) t

-- what the caller holds, as the layer below holds it: its records are the first 32 of the lent list
abbrev pub lent_machine : Lent → Machine
lent_machine m = machine_with m.state (take record_limit m.records) m.tables
