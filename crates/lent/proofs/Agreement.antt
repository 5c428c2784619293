-- Demand 3 for the calls on a lent query list: it is the engine's, of the first 32 records.
-- Assumes nothing.
use Rattle.std.proofs.Common.{◌≡◌, true, leb, length, take, ap, ◌∙◌, leb-true}
use Rattle.window.specs.Calls.{Call, start, register, withdraw, reading, totals, Outcome}
use Rattle.window.specs.Model.{reached}
use Rattle.window.proofs.Lists.{and_left, and_right}
use Rattle.registry.specs.Records.{record_limit}
use Rattle.engine.specs.Promises.{Promise}
use Rattle.engine.specs.Demand3 as below
use Rattle.engine.specs.Machine.{machine_long}
use Rattle.engine.proofs.Carrying.{carried_run, carried_demand_3, carried_from_start, carried_live, carried_never-damaged}
use Rattle.lent.specs.Lent.{Lent, list_long, lent_long, lent_machine}
use Rattle.lent.specs.Promises.{OnLent}
use Rattle.lent.specs.Demand3.{Performs, Demand3, InRecords, FromStart, BoardLive, NeverDamaged}
use Rattle.lent.proofs.Listing.{records-are, long-below}

-- the list is long enough
abbrev ListLong : Lent → Type 0
ListLong m = list_long m ≡ true

-- so it is where check 1 passes, and the six tables are
opens : (m : Lent) → lent_long m ≡ true → ListLong m × (machine_long (lent_machine m) ≡ true)
opens m l = (and_left (list_long m) _ l, long-below m.state (take record_limit m.records) m.tables ∙ and_right (list_long m) _ l)

-- it stays so
still-long : {promise : Promise} {m m' : Lent} {o : Outcome} → OnLent promise m o m' → ListLong m → ListLong m'
still-long e l = ap (leb record_limit) e.kept.as_long ∙ l

-- a call on it is one of the engine's on its first 32 records
performs : (c : Call) (m : Lent) (o : Outcome) (m' : Lent) → ListLong m → Performs c m o m' → below.Performs c (lent_machine m) o (lent_machine m') × ListLong m'
performs start m o m' l e = (e.promised l, still-long e l)
performs (register number kind range slide) m o m' l e = (e.promised l, still-long e l)
performs (withdraw number) m o m' l e = (e.promised l, still-long e l)
performs (reading v places) m o m' l e = (
  record { before = e.before; after = e.after; returned = e.returned; long = e.long; read = e.read; ensures = e.ensures.on_lent.promised l },
  still-long e.ensures.on_lent l,
)
performs totals m o m' l e = (e.promised l, still-long e l)

-- demand 3
pub demand_3 : Demand3
demand_3 = carried_demand_3 lent_machine lent_long Performs ListLong opens performs

-- what came from a start represents the model's state
pub from_start : FromStart
from_start = carried_from_start lent_machine lent_long Performs ListLong opens performs

-- so its first 32 records are the model's queries, and unused ones
pub in_records : InRecords
in_records fresh f calls outcomes m p =
    let l = (carried_run lent_machine lent_long Performs ListLong opens performs fresh f calls outcomes m p).2 in
    records-are (reached calls) m.state m.records m.tables (leb-true record_limit (length m.records) l) (from_start fresh f calls outcomes m p)

-- so its tables hold what is live, and what stands of it
pub from_start-live : BoardLive
from_start-live = carried_live lent_machine lent_long Performs ListLong opens performs

-- what came from a start is never given 1 or 2
pub never-damaged : NeverDamaged
never-damaged = carried_never-damaged lent_machine lent_long Performs ListLong opens performs
