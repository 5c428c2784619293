-- What a call does to the model beside keeping its invariant: a refused call changes nothing, the horizon never falls
-- (I7), and the readings are those of the accepted readings.
-- Assumes nothing.
use Rattle.std.specs.Prelude.{Ok, Err}
use mathlib.Core.Path.{◌≡◌, refl, sym, ap, ◌∙◌, subst}
use mathlib.Core.Bool.{Bool, true, false, not}
use mathlib.Core.Option.{Option, none, some}
use mathlib.Core.List.{List, [], ◌∷◌, ◌++◌}
use Prim.Native.Nat.{ℕ, ◌≤◌}
use native.Mathlib.Nat.{le_refl}
use native.Mathlib.Omega.{arith}
use lib.IntN.{ℤ}
use lib.ListN.{length, length-append}
use Rattle.window.specs.declared.query.Query.{Query}
use Rattle.window.specs.declared.refusal.Refusal.{Refusal}
use Rattle.window.specs.Lists.{any, Each}
use Rattle.window.specs.Queries.{edge, horizon}
use Rattle.window.specs.Refusals.{Verdict, refusal_number, first_refusal, name_checks, length_checks, field_checks, list_checks, register_checks, withdraw_checks, count_checks, places_checks, reading_checks, reading_checks_at, has_number}
use Rattle.window.specs.Calls.{Call, start, register, withdraw, reading, totals, OfReading, Answer, Outcome, accepted, refused}
use Rattle.window.specs.Model.{State, count, close_at, close_where, holds_reading, with_query, after_register, after_withdraw, reading_taken, close_at_edge, after_reading, Stepped, answers, answered, totals_of, judged, new_query, step, step_at}
use Rattle.window.proofs.Lists.{each_append}
use Rattle.window.proofs.Queries.{horizon-later, horizon-more, horizon_fewer}
use Rattle.window.specs.Invariant.{Invariant}
use Rattle.window.proofs.Refusals.{refusal_each}
use Rattle.window.proofs.Preserved.{judged_keeps}
use Rattle.window.proofs.Bounds.{bounded}

-- ---- a refused call changes nothing

-- the number of a refused call
abbrev pub number_of : Outcome → ℕ
number_of (accepted ns given) = 0
number_of (refused k) = k

-- no outcome accepts and refuses
pub accepted-refused : {X : Type 0} (ns : List ℕ) (bs : List Answer) (k : ℕ) → accepted ns bs ≡ refused k → X
accepted-refused ns bs k e = let z : ◌≡◌ {A = ℕ} 0 1 = cc in absurd (omega arith)

judged-refused : (v : Verdict) (s : State) (t : Stepped) (ns : List ℕ) (bs : List Answer) (k : ℕ) → t.outcome ≡ accepted ns bs
    → (judged v s t).outcome ≡ refused k → (judged v s t).state ≡ s
judged-refused (Ok _) s t ns bs k a e = accepted-refused ns bs k (sym a ∙ e)
judged-refused (Err r) s t ns bs k a e = refl

pub refused-unchanged : (s : State) (c : Call) (k : ℕ) → (step s c).outcome ≡ refused k → (step s c).state ≡ s
unfolding step_at answered totals_of
refused-unchanged s start k e = accepted-refused (0 ∷ []) [] k e
refused-unchanged s (register number kind range slide) k e =
    judged-refused (first_refusal (register_checks s.queries number kind range slide)) s _ (0 ∷ []) [] k refl e
refused-unchanged s (withdraw number) k e =
    judged-refused (first_refusal (withdraw_checks s.queries number)) s _ (0 ∷ []) [] k refl e
refused-unchanged s (reading v places) k e =
    let given : List Answer = answers (after_reading s v) in
    judged-refused (first_refusal (reading_checks (count s) s.queries places)) s _ (length given ∷ []) given k refl e
refused-unchanged s totals k e = refl

-- ---- which refusals the model gives

judged-number : (v : Verdict) (s : State) (t : Stepped) (ns : List ℕ) (bs : List Answer) (k : ℕ) → t.outcome ≡ accepted ns bs → ((r : Refusal) → v ≡ Err r → 3 ≤ refusal_number r)
    → (judged v s t).outcome ≡ refused k → 3 ≤ k
judged-number (Ok _) s t ns bs k a h e = accepted-refused ns bs k (sym a ∙ e)
judged-number (Err r) s t ns bs k a h e = subst (λ (n : ℕ). 3 ≤ n) (ap number_of e) (h r refl)

-- none but 3 to 11: 1 and 2 are judged on tables and a state that it does not have
pub refused_from_three : (s : State) (c : Call) (k : ℕ) → (step s c).outcome ≡ refused k → 3 ≤ k
unfolding step_at answered totals_of register_checks name_checks length_checks field_checks list_checks withdraw_checks count_checks places_checks reading_checks_at
refused_from_three s start k e = accepted-refused (0 ∷ []) [] k e
refused_from_three s (register number kind range slide) k e =
    judged-number (first_refusal (register_checks s.queries number kind range slide)) s _ (0 ∷ []) [] k refl
    (refusal_each (λ (r : Refusal). 3 ≤ refusal_number r) (register_checks s.queries number kind range slide)
    (omega arith, (omega arith, (omega arith, (omega arith, (omega arith, (omega arith, tt))))))) e
refused_from_three s (withdraw number) k e =
    judged-number (first_refusal (withdraw_checks s.queries number)) s _ (0 ∷ []) [] k refl
    (refusal_each (λ (r : Refusal). 3 ≤ refusal_number r) (withdraw_checks s.queries number) (omega arith, tt)) e
refused_from_three s (reading v places) k e =
    let given : List Answer = answers (after_reading s v) in
    judged-number (first_refusal (reading_checks (count s) s.queries places)) s _ (length given ∷ []) given k refl
    (refusal_each (λ (r : Refusal). 3 ≤ refusal_number r) (reading_checks (count s) s.queries places) (omega arith, (omega arith, tt))) e
refused_from_three s totals k e = accepted-refused _ [] k e

-- ---- readings and queries

-- a closing changes neither
pub close_keeps : (P : List ℤ → List Query → Type 0) (b : Bool) (o : Option ℕ) (s : State) → P s.readings s.queries
    → P (close_where b o s).readings (close_where b o s).queries
unfolding close_where close_at
close_keeps P b none s h = h
close_keeps P true (some a) s h = h
close_keeps P false (some a) s h = h

pub reading-readings : (s : State) (v : ℤ) → (after_reading s v).readings ≡ s.readings ++ (v ∷ [])
unfolding after_reading close_at_edge reading_taken
reading-readings s v =
    close_keeps (λ (rs : List ℤ) (qs : List Query). rs ≡ s.readings ++ (v ∷ [])) (any (edge (count (reading_taken s v))) s.queries) s.open_start (reading_taken s v) refl

pub reading-queries : (s : State) (v : ℤ) → (after_reading s v).queries ≡ s.queries
unfolding after_reading close_at_edge reading_taken
reading-queries s v =
    close_keeps (λ (rs : List ℤ) (qs : List Query). qs ≡ s.queries) (any (edge (count (reading_taken s v))) s.queries) s.open_start (reading_taken s v) refl

pub register-readings : (s : State) (q : Query) → (after_register s q).readings ≡ s.readings
unfolding after_register with_query
register-readings s q = close_keeps (λ (rs : List ℤ) (qs : List Query). rs ≡ s.readings) (holds_reading (count s) s.open_start) s.open_start s refl

pub register-queries : (s : State) (q : Query) → (after_register s q).queries ≡ s.queries ++ (q ∷ [])
unfolding after_register with_query
register-queries s q =
    close_keeps (λ (rs : List ℤ) (qs : List Query). qs ++ (q ∷ []) ≡ s.queries ++ (q ∷ [])) (holds_reading (count s) s.open_start) s.open_start s refl

-- ---- every reading of the model was handed over by an accepted reading call

pub step-readings : (P : ℤ → Type 0) (s : State) (c : Call) → OfReading P c → Each P s.readings → Each P (step s c).state.readings
unfolding step_at answered totals_of after_withdraw
step-readings P s start p h = tt
step-readings P s (register number kind range slide) p h =
    judged_keeps (λ (x : State). Each P x.readings) (first_refusal (register_checks s.queries number kind range slide)) s _ h
    (λ e. rw (register-readings s (new_query s number kind range slide)) h)
step-readings P s (withdraw number) p h =
    judged_keeps (λ (x : State). Each P x.readings) (first_refusal (withdraw_checks s.queries number)) s _ h (λ e. h)
step-readings P s (reading v places) p h =
    judged_keeps (λ (x : State). Each P x.readings) (first_refusal (reading_checks (count s) s.queries places)) s _ h
    (λ e. rw (reading-readings s v) (each_append P s.readings (v ∷ []) h (p, tt)))
step-readings P s totals p h = h

-- ---- I7: the horizon never falls from call to call, but at a start

-- the horizon of a state
abbrev pub horizon_of : State → ℕ
horizon_of s = horizon (count s) s.queries

register-horizon : (s : State) (q : Query) → Each (λ (p : Query). p.origin ≤ count s) s.queries → q.origin ≡ count s → horizon_of s ≤ horizon_of (after_register s q)
register-horizon s q h e = rw (register-readings s q, register-queries s q, horizon-more (count s) s.queries q h e) (le_refl (horizon_of s))

reading-horizon : (s : State) (v : ℤ) → horizon_of s ≤ horizon_of (after_reading s v)
reading-horizon s v = rw (reading-readings s v, reading-queries s v, length-append s.readings (v ∷ [])) (horizon-later (count s) s.queries)

pub horizon_rises : (s : State) (c : Call) → Invariant s → (c ≡ start → ⊥) → horizon_of s ≤ horizon_of (step s c).state
unfolding step_at answered totals_of after_withdraw
horizon_rises s start i n = absurd (n refl)
horizon_rises s (register number kind range slide) i n =
    judged_keeps (λ (x : State). horizon_of s ≤ horizon_of x) (first_refusal (register_checks s.queries number kind range slide)) s _ (le_refl (horizon_of s))
    (λ e. register-horizon s (new_query s number kind range slide) (bounded s i).origins_early refl)
horizon_rises s (withdraw number) i n =
    judged_keeps (λ (x : State). horizon_of s ≤ horizon_of x) (first_refusal (withdraw_checks s.queries number)) s _ (le_refl (horizon_of s))
    (λ e. horizon_fewer (count s) (λ (q : Query). not (has_number number q)) s.queries (bounded s i).origins_early)
horizon_rises s (reading v places) i n =
    judged_keeps (λ (x : State). horizon_of s ≤ horizon_of x) (first_refusal (reading_checks (count s) s.queries places)) s _ (le_refl (horizon_of s))
    (λ e. reading-horizon s v)
horizon_rises s totals i n = le_refl (horizon_of s)
