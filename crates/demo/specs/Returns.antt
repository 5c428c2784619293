-- The demonstration's calls, what they return and what their caller holds, in the words of the promises.
-- Assumes nothing.
use Rattle.std.specs.Prelude.{ℕ, ◌*◌, ◌≡◌, min, List, [], ◌∷◌, ℤ, ⊤, Result, Ok, Err}
use Rattle.window.specs.declared.refusal.Refusal.{Refusal}
use Rattle.window.specs.Queries.{count_limit}
use Rattle.window.specs.Calls as calls
use Rattle.window.specs.Calls.{Outcome, accepted, refused}
use Rattle.window.specs.Refusals.{refusal_number, answer_places}
use Rattle.registry.specs.Records.{record_limit}
use Rattle.board.specs.Lending.{lent_lists}
use Rattle.board.specs.Tables.{Tables}
use Rattle.engine.specs.Demand3.{PerformsOn}
use Rattle.engine.specs.Outcomes.{reading_outcome, totals_outcome}
use Rattle.engine.specs.Promises.{Ensures}
use Rattle.lent.specs.Lent.{Lent, lent}
use Rattle.lent.specs.Promises.{OnLent, ReadingOnLent}
use Rattle.demo.specs.declared.caller.Caller.{Caller}
use Rattle.demo.specs.declared.caller.Returned.{Returned}
use Rattle.demo.specs.declared.caller.Returned.TheVariants.{Zero, Answers, Totals}
use Rattle.demo.specs.declared.script.Call.{Call}
use Rattle.demo.specs.declared.script.Call.TheVariants as script

-- the state, the records and the tables
abbrev pub held : Caller → Lent
held c = lent c.state c.queries (lent_lists c.tables)

-- document 01's call, where an answer table of so many places is lent
abbrev pub call_of : ℕ → Call → calls.Call
call_of places script.Start = calls.start
call_of places (script.Register number kind range slide) = calls.register number kind range slide
call_of places (script.Withdraw number) = calls.withdraw number
call_of places (script.Reading v) = calls.reading v places
call_of places (script.ReadingInto v k) = calls.reading v places
call_of places script.Totals = calls.totals

-- how many places the answer table has that a call of a list is lent: those of 32 answers, or fewer
abbrev pub places_of : Call → ℕ
places_of (script.ReadingInto v k) = min (record_limit * answer_places) k
places_of _ = record_limit * answer_places

-- document 01's outcome, with the answers read from these places
abbrev pub outcome_of : Result Returned Refusal → List ℤ → Outcome
outcome_of (Ok Zero) places = accepted (0 ∷ []) []
outcome_of (Ok (Answers k)) places = reading_outcome (Ok k) places
outcome_of (Ok (Totals t)) places = totals_outcome (Ok t)
outcome_of (Err r) places = refused (refusal_number r)

-- the call c on m came to o and left m', with an answer table that held `before` and holds `after`: what the five calls
-- on a lent query list promise
abbrev pub PerformsWith : (before after : List ℤ) → calls.Call → Lent → Outcome → Lent → Type 0
PerformsWith before after c m o m' =
    PerformsOn count_limit OnLent (λ (v : ℤ) (places : ℕ). ReadingOnLent v before after) (OnLent (Ensures calls.totals)) c m o m'

-- the tables before and after a call: a withdrawal and totals are only lent them to read
abbrev pub KeepsTables : Call → Tables → Tables → Type 0
KeepsTables (script.Withdraw number) t t' = t' ≡ t
KeepsTables script.Totals t t' = t' ≡ t
KeepsTables _ t t' = ⊤
