-- What the caller holds between two calls, and which states of the reference model it represents.
-- Assumes nothing.
use Rattle.std.specs.Prelude.{ℕ, ◌<◌, leb, ◌≡◌, Bool, true, ◌&&◌, List, map, ℤ, length}
use Rattle.std.proofs.Math.Option.{none, some}
use Rattle.window.specs.Lists.{Each}
use Rattle.window.specs.Orders.{sum, maximum, minimum}
use Rattle.window.specs.Queries.{count_limit, horizon}
use Rattle.window.specs.Partials.{Partial, between, readings_of}
use Rattle.window.specs.Calls.{IsReading}
use Rattle.window.specs.Model as model
use Rattle.window.specs.Model.{count}
use Rattle.window.specs.Invariant.{InvariantAt}
use Rattle.window.specs.declared.query.Query.{Query}
use Rattle.registry.specs.Records.{list_places, used, ordered, Tidy}
use Rattle.board.specs.declared.aggregate.Aggregate.{Aggregate}
use Rattle.board.specs.Ledgers.{Ledger, ledger}
use Rattle.board.specs.Boards.{Holds}
use Rattle.engine.specs.declared.partial.Open.{Open}
use Rattle.engine.specs.declared.partial.Open.TheVariants.{Nothing, Empty, Holding}
use Rattle.engine.specs.declared.state.State.{State}
use Rattle.board.specs.Tables.{Tables, tables_long}

-- state, query list and tables
pub record Machine : Type 0 where
  pub state : State
  pub list : List ℕ
  pub tables : Tables

-- the three, in this order
abbrev pub machine : State → List ℕ → Tables → Machine
machine st l t = record { state = st; list = l; tables = t }

-- the registered queries
abbrev pub queries_of : Machine → List Query
queries_of m = used m.state.registered m.list

-- check 1: query list and tables have their lengths
unfoldable pub machine_long : Machine → Bool
machine_long m = leb list_places (length m.list) && tables_long m.tables

-- ---- the open partial

-- an open partial that holds readings: its start is the model's, and its aggregates are those of the readings after it
pub record HoldingIs (a : Aggregate) (s : model.State) : Type 0 where
  pub start : s.open_start ≡ some a.start
  pub holds : a.start < count s
  pub sum : a.sum ≡ sum (between s.readings a.start (count s))
  pub maximum : a.maximum ≡ maximum (between s.readings a.start (count s))
  pub minimum : a.minimum ≡ minimum (between s.readings a.start (count s))

-- none is open in both, or an empty one that starts at n, or one that holds the same readings
abbrev pub OpenIs : Open → model.State → Type 0
OpenIs Nothing s = s.open_start ≡ none
OpenIs Empty s = s.open_start ≡ some (count s)
OpenIs (Holding a) s = HoldingIs a s

-- ---- the board

-- the horizon of the model's state
abbrev pub horizon_of : model.State → ℕ
horizon_of s = horizon (count s) s.queries

-- a closed partial with its aggregates, as the readings give them
abbrev pub closed_of : List ℤ → Partial → Aggregate
closed_of readings p =
    record { start = p.start; sum = sum (readings_of readings p); maximum = maximum (readings_of readings p); minimum = minimum (readings_of readings p) }

-- all that is closed in the model, with M and N
abbrev pub ledger_of : model.State → Ledger
ledger_of s = ledger (map (closed_of s.readings) s.closed) s.max_comparisons s.min_comparisons

-- ---- the query list

-- the used records, k of them, are the model's queries, their places by number are in order, and the unused ones are 0
pub record ListIs (s : model.State) (k : ℕ) (l : List ℕ) : Type 0 where
  pub count : k ≡ length s.queries
  pub queries : used k l ≡ s.queries
  pub in_order : ordered k l ≡ true
  pub tidy : Tidy k l

-- ---- the whole

-- n, P, M and N, the open partial and the board are the model's
pub record StateIs (s : model.State) (st : State) (t : Tables) : Type 0 where
  pub count : st.count ≡ count s
  pub partial : OpenIs st.partial s
  pub board : Holds (horizon_of s) (ledger_of s) st.board t

-- the machine represents the state s of the model, which has the invariant, as all that calls lead to has, and whose
-- readings are signed 32-bit numbers
pub record RepresentsAt (limit : ℕ) (s : model.State) (m : Machine) : Type 0 where
  pub invariant : InvariantAt limit s
  pub readings : Each IsReading s.readings
  pub long : machine_long m ≡ true
  pub list : ListIs s m.state.registered m.list
  pub state : StateIs s m.state m.tables

-- with the limit of this form
abbrev pub Represents : model.State → Machine → Type 0
Represents s m = RepresentsAt count_limit s m
