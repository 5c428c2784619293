-- Demand 3 for the calls that users make: with the query list lent as records. `proofs/Agreement.antt` proves it.
-- Assumes nothing.
use Rattle.std.specs.Prelude.{◌≡◌, List, take}
use Rattle.window.specs.Queries.{count_limit}
use Rattle.window.specs.Calls.{Call, totals, Outcome}
use Rattle.window.specs.Model.{reached}
use Rattle.registry.specs.Records.{record_limit}
use Rattle.records.specs.LentList.{filled_up}
use Rattle.engine.specs.Promises.{Ensures}
use Rattle.engine.specs.Demand3.{PerformsOn, Reads, FromFresh, Demand3On, FromStartOn, BoardLiveOn, NeverDamagedOn}
use Rattle.lent.specs.Lent.{Lent, lent_long, lent_machine}
use Rattle.lent.specs.Promises.{OnLent, ReadingOnLent}

-- the call c on m came to o and left m': what the contracts of the five calls say of it. For every list of calls whose
-- numbers are of the types that the functions take there is a run, as in `engine`: each of the five functions returns
-- on every input, and what it returns meets its contract
abbrev pub Performs : Call → Lent → Outcome → Lent → Type 0
Performs c m o m' = PerformsOn count_limit OnLent (Reads ReadingOnLent) (OnLent (Ensures totals)) c m o m'

-- the claim about the whole list, of the first 32 records; and what stands beside it
abbrev pub Demand3 : Type 0
Demand3 = Demand3On lent_machine lent_long Performs

-- the first 32 records are the model's queries, and unused records after them
abbrev pub InRecords : Type 0
InRecords = FromFresh lent_machine lent_long Performs (λ (calls : List Call) (outcomes : List Outcome) (m : Lent). take record_limit m.records ≡ filled_up (reached calls).queries)

abbrev pub FromStart : Type 0
FromStart = FromStartOn lent_machine lent_long Performs

abbrev pub BoardLive : Type 0
BoardLive = BoardLiveOn lent_machine lent_long Performs

abbrev pub NeverDamaged : Type 0
NeverDamaged = NeverDamagedOn lent_machine lent_long Performs
