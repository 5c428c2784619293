-- The model's step as a verdict and what follows on acceptance, and the numbers in a call's own rows.
-- Assumes nothing.
use Rattle.std.specs.Prelude.{Err}
use mathlib.Core.Path.{◌≡◌, refl, sym}
use mathlib.Core.List.{List}
use Prim.Native.Nat.{ℕ}
use Rattle.window.specs.declared.query.Query.{Query}
use Rattle.window.specs.declared.refusal.Refusal.{Refusal}
use Rattle.window.specs.Refusals.{refusal_number, name_checks, length_checks, field_checks, list_checks, register_checks, withdraw_checks, count_checks, places_checks, reading_checks, reading_checks_at}
use Rattle.window.specs.Calls.{Call, start, register, withdraw, reading, totals}
use Rattle.window.specs.Model as model
use Rattle.window.specs.Model.{count, initial, after_register, after_withdraw, after_reading, Stepped, done, answered, totals_of, judged, new_query, step, step_at}
use Rattle.window.proofs.Refusals.{refused_passed, refusal_each}
use Rattle.engine.specs.Answers.{places}
use Rattle.engine.specs.Machine.{Machine, queries_of, Represents}
use Rattle.engine.specs.Promises.{InRows, verdict_of}

-- ---- the model's step, as a verdict and what follows on acceptance

-- the accepted call
abbrev pub accepted_step : model.State → Call → Stepped
accepted_step s start = done initial
accepted_step s (register number kind range slide) = done (after_register s (new_query s number kind range slide))
accepted_step s (withdraw number) = done (after_withdraw s number)
accepted_step s (reading v places) = answered (after_reading s v)
accepted_step s totals = totals_of s

-- the step is the accepted one, or none, by the verdict
pub step-judged : (s : model.State) (c : Call) → step s c ≡ judged (verdict_of c (count s) s.queries) s (accepted_step s c)
unfolding step_at
step-judged s start = refl
step-judged s (register number kind range slide) = refl
step-judged s (withdraw number) = refl
step-judged s (reading v places) = refl
step-judged s totals = refl

-- ---- a call's own rows

-- the number of a refusal by a call's own checks is in its rows
pub own_row : (c : Call) (n : ℕ) (qs : List Query) (r : Refusal) → verdict_of c n qs ≡ Err r → InRows c (refusal_number r)
unfolding register_checks field_checks name_checks length_checks list_checks withdraw_checks reading_checks_at count_checks places_checks
own_row start n qs r e = refused_passed r (sym e)
own_row (register number kind range slide) n qs r e =
    refusal_each (λ (x : Refusal). InRows (register number kind range slide) (refusal_number x)) (register_checks qs number kind range slide)
    (refl, (refl, (refl, (refl, (refl, (refl, tt)))))) r e
own_row (withdraw number) n qs r e =
    refusal_each (λ (x : Refusal). InRows (withdraw number) (refusal_number x)) (withdraw_checks qs number) (refl, tt) r e
own_row (reading v places) n qs r e =
    refusal_each (λ (x : Refusal). InRows (reading v places) (refusal_number x)) (reading_checks n qs places) (refl, (refl, tt)) r e
own_row totals n qs r e = refused_passed r (sym e)

-- the queries and the count on which a call is judged are those of the model
pub same_verdict : (c : Call) (s : model.State) (m : Machine) → Represents s m → verdict_of c m.state.count (queries_of m) ≡ verdict_of c (count s) s.queries
same_verdict c s m rep = rw (rep.state.count, rep.list.queries)
