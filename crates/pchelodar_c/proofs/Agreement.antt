-- Demand 3 for the calls on lent numbers: it is the engine's, of what the numbers are read as.
-- Assumes nothing.
use Prim.Native.Nat.{ℕ, zero, suc}
use mathlib.Core.Path.{◌≡◌, refl, sym, ap, ◌∙◌, subst}
use mathlib.Core.Bool.{Bool, true, false, false≢true, ◌||◌}
use mathlib.Core.List.{List, [], ◌∷◌, map}
use borrow.Author.Tests.{eqb-true}
use lib.Dec.{eqb, leb}
use lib.IntN.{ℤ}
use lib.ListN.{length}
use Rattle.std.specs.Prelude.{Result, Ok, Err}
use Rattle.window.specs.declared.refusal.Refusal.{Refusal}
use Rattle.window.specs.declared.refusal.Refusal.TheVariants.{TableTooShort, Damaged, CountExhausted, AnswersTooShort}
use Rattle.window.specs.Refusals.{refusal_number}
use Rattle.window.specs.Calls.{Call, start, register, withdraw, reading, totals, Outcome, refused}
use Rattle.window.specs.Lists.{any}
use Rattle.window.proofs.Lists.{and_left, and_right}
use Rattle.registry.specs.Records.{Tidy}
use Rattle.engine.specs.Machine.{machine_long}
use Rattle.engine.specs.Outcomes.{reading_outcome}
use Rattle.engine.specs.Promises.{Promise, InRows, Ensures, ReadingEnsures, StartEnsures}
use Rattle.engine.specs.Demand3 as below
use Rattle.engine.proofs.Carrying.{carried_demand_3, carried_from_start, carried_live, carried_never-damaged}
use Rattle.encoding.specs.Written.{state_numbers}
use Rattle.pchelodar_c.specs.Slices.{Slices, state_long, slices_long, slices_machine}
use Rattle.pchelodar_c.specs.Promises.{code_outcome, reading_code_outcome, totals_code_outcome, OnNumbers, ReadingOnNumbers, TotalsOnNumbers}
use Rattle.pchelodar_c.specs.Demand3.{Returned, ReadingReturned, TotalsReturned, Performs, Demand3, FromStart, BoardLive, NeverDamaged, StartZeroes}

-- ---- what meets the contract of a function is one of the calls that demand 3 speaks of

-- start, register and withdraw
pub returned_performs : (promise : Promise) (code : ℕ) (m m' : Slices) → OnNumbers promise m (code_outcome code) m' → Returned promise m (code_outcome code) m'
returned_performs promise code m m' e = record { code = code; read = refl; ensures = e }

-- a reading
pub reading_performs : (v : ℤ) (before after : List ℤ) (given given' code : ℕ) (m m' : Slices) → ReadingOnNumbers v before after given given' m (reading_code_outcome code given' after) m'
    → Performs (reading v (length before)) m (reading_code_outcome code given' after) m'
reading_performs v before after given given' code m m' e =
    record { before = before; after = after; given = given; given' = given'; code = code; long = refl; read = refl; ensures = e }

-- totals
pub totals_performs : (before after : List ℕ) (code : ℕ) (m : Slices) → TotalsOnNumbers before after m (totals_code_outcome code after) → Performs totals m (totals_code_outcome code after) m
totals_performs before after code m e = record { before = before; after = after; code = code; read = refl; ensures = e; same = refl }

-- ---- what a reading returned, from its code

-- a number that stands among those of refusals is that of one
numbered : (k : ℕ) (rs : List Refusal) → any (eqb k) (map refusal_number rs) ≡ true → (r : Refusal) × (refusal_number r ≡ k)
numbered k [] e = absurd (false≢true e)
numbered k (r ∷ rs) e = go (numbered k rs) (eqb k (refusal_number r)) refl e
  where
    go : (any (eqb k) (map refusal_number rs) ≡ true → (x : Refusal) × (refusal_number x ≡ k)) → (b : Bool) → eqb k (refusal_number r) ≡ b
        → (b || any (eqb k) (map refusal_number rs)) ≡ true → (x : Refusal) × (refusal_number x ≡ k)
    go later true f i = (r, sym (eqb-true k (refusal_number r) f))
    go later false f i = later i

-- 0 returned so many answers, and any other number, being one of the call's own, its refusal
answered : (v : ℤ) (places code given : ℕ) (after : List ℤ) → ((k : ℕ) → reading_code_outcome code given after ≡ refused k → InRows (reading v places) k)
    → (a : Result ℕ Refusal) × (reading_code_outcome code given after ≡ reading_outcome a after)
answered v places zero given after own = (Ok given, refl)
answered v places (suc k) given after own =
    let r = numbered (suc k) (TableTooShort ∷ Damaged ∷ CountExhausted ∷ AnswersTooShort ∷ []) (own (suc k) refl) in
    (Err r.0, ap refused (sym r.1))

-- ---- one call

-- slices that have room keep it
still-long : {promise : Promise} {m m' : Slices} {o : Outcome} → OnNumbers promise m o m' → state_long m ≡ true → state_long m' ≡ true
still-long e l = ap (leb state_numbers) e.state.as_long ∙ l

-- start, register and withdraw: what is promised of the code is so of the outcome
returned : (promise : Promise) (m : Slices) (o : Outcome) (m' : Slices) → state_long m ≡ true → Returned promise m o m' → promise (slices_machine m) o (slices_machine m') × (state_long m' ≡ true)
returned promise m o m' l e = (subst (λ (x : Outcome). promise (slices_machine m) x (slices_machine m')) (sym e.read) (e.ensures.promised l), still-long e.ensures l)

-- a reading
reading-returned : (v : ℤ) (places : ℕ) (m : Slices) (o : Outcome) (m' : Slices) → state_long m ≡ true → ReadingReturned v places m o m'
    → below.Performs (reading v places) (slices_machine m) o (slices_machine m') × (state_long m' ≡ true)
reading-returned v places m o m' l e =
    let p : ReadingEnsures v e.before e.after (slices_machine m) (reading_code_outcome e.code e.given' e.after) (slices_machine m') = e.ensures.on_numbers.promised l in
    let a = answered v (length e.before) e.code e.given' e.after p.ensures.own in (
      record {
        before = e.before;
        after = e.after;
        returned = a.0;
        long = e.long;
        read = e.read ∙ a.1;
        ensures = subst (λ (x : Outcome). ReadingEnsures v e.before e.after (slices_machine m) x (slices_machine m')) (sym e.read) p;
      },
      still-long e.ensures.on_numbers l,
    )

-- totals
totals-returned : (m : Slices) (o : Outcome) (m' : Slices) → state_long m ≡ true → TotalsReturned m o m'
    → Ensures totals (slices_machine m) o (slices_machine m') × (state_long m' ≡ true)
totals-returned m o m' l e =
    subst (λ (n : Slices). Ensures totals (slices_machine m) o (slices_machine n) × (state_long n ≡ true)) (sym e.same)
    (subst (λ (x : Outcome). Ensures totals (slices_machine m) x (slices_machine m)) (sym e.read) (e.ensures.on_numbers.promised l), l)

-- a call on numbers is one of the engine's on what they are read as
performs : (c : Call) (m : Slices) (o : Outcome) (m' : Slices) → state_long m ≡ true → Performs c m o m' → below.Performs c (slices_machine m) o (slices_machine m') × (state_long m' ≡ true)
performs start m o m' l e = returned StartEnsures m o m' l e
performs (register number kind range slide) m o m' l e = returned (Ensures (register number kind range slide)) m o m' l e
performs (withdraw number) m o m' l e = returned (Ensures (withdraw number)) m o m' l e
performs (reading v places) m o m' l e = reading-returned v places m o m' l e
performs totals m o m' l e = totals-returned m o m' l e

-- ---- a list of calls

-- there is room for the numbers of the state
abbrev Room : Slices → Type 0
Room m = state_long m ≡ true

-- so there is where check 1 passes, and the query list and the six tables are long enough
opens : (m : Slices) → slices_long m ≡ true → Room m × (machine_long (slices_machine m) ≡ true)
opens m l = (and_left (state_long m) _ l, and_right (state_long m) _ l)

-- what came from a start represents the model's state
pub from_start : FromStart
from_start = carried_from_start slices_machine slices_long Performs Room opens performs

-- demand 3
pub demand_3 : Demand3
demand_3 = carried_demand_3 slices_machine slices_long Performs Room opens performs

-- what came from a start has tables that hold what is live, and what stands of it
pub from_start-live : BoardLive
from_start-live = carried_live slices_machine slices_long Performs Room opens performs

-- and is never given 1 or 2
pub never-damaged : NeverDamaged
never-damaged = carried_never-damaged slices_machine slices_long Performs Room opens performs

-- ---- a start

-- what was accepted passed check 1
accepted-long : {promise : Promise} {m m' : Slices} → OnNumbers promise m (code_outcome 0) m' → slices_long m ≡ true
accepted-long {promise} {m} e = go (slices_long m) e.short
  where
    go : (b : Bool) → (b ≡ false → code_outcome 0 ≡ refused 1) → b ≡ true
    go true short = refl
    go false short = let i : code_outcome 0 ≡ refused 1 = short refl in cc

-- an accepted start leaves the query list 0: it holds the records of no query, and what is unused is 0
pub start-zeroes : StartZeroes
start-zeroes m m' e =
    let l : slices_long m ≡ true = accepted-long e in
    let room : state_long m ≡ true = and_left (state_long m) _ l in
    let i = ((e.promised room).represents (and_right (state_long m) _ l)).list in
    subst (λ (k : ℕ). Tidy k m'.queries) i.count i.tidy
