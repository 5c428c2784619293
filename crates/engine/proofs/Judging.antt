-- Checks 1 and 2, and then those of a call.
-- Assumes nothing.
use Rattle.std.specs.Prelude.{Ok, Err, ◌⊎◌}
use Rattle.std.proofs.Common.{inl, inr}
use mathlib.Core.Path.{◌≡◌, sym, ap₂, ◌∙◌, subst, refl}
use mathlib.Core.Bool.{Bool, true, false, true≢false, ◌&&◌}
use mathlib.Core.List.{List}
use Prim.Native.Nat.{ℕ, ◌≤◌, ◌<◌}
use borrow.Author.Tests.{le-leb, lt-leb}
use lib.Dec.{leb}
use lib.ListN.{length}
use Rattle.window.specs.Refusals.{Verdict}
use Rattle.window.specs.declared.refusal.Refusal.{Refusal}
use Rattle.window.proofs.Refusals.{refused_passed}
use Rattle.window.specs.declared.refusal.Refusal.TheVariants.{TableTooShort, Damaged}
use Rattle.registry.specs.declared.list.Checked.{Checked}
use Rattle.registry.specs.Records.{list_places, used, list_fits}
use Rattle.registry.specs.Held.{held}
use Rattle.board.specs.Tables.{Tables, tables_long}
use Rattle.engine.specs.declared.state.State.{State}
use Rattle.engine.specs.Machine.{machine, machine_long}
use Rattle.engine.specs.States.{Intact, Judged, is_short, is_damaged, is_judged, ListOf}

and_false : (b : Bool) → (b && false) ≡ false
and_false true = refl
and_false false = refl

module _ (long : Bool) (st : State) (l : List ℕ) where
  -- a refusal by checks 1 and 2 decides, whatever the call's own checks come to
  pub judged-first : (own w : Verdict) (r : Refusal) → Judged long st l (Ok tt) w → w ≡ Err r → Judged long st l own (Err r)
  judged-first own w r (is_short e) i = subst (Judged long st l own) i (is_short e)
  judged-first own w r (is_damaged e f) i = subst (Judged long st l own) i (is_damaged e f)
  judged-first own w r (is_judged e f) i = refused_passed r (sym i)

  -- where they pass, list and tables are long enough, and state and list are intact
  pub judged_passed : (own w : Verdict) → Judged long st l own w → w ≡ Ok tt → (long ≡ true) × Intact st l × (own ≡ Ok tt)
  judged_passed own w (is_short e) i = refused_passed _ i
  judged_passed own w (is_damaged e f) i = refused_passed _ i
  judged_passed own w (is_judged e f) i = (e, f, i)

  -- and the call's own checks decide
  pub judged-last : (own w v : Verdict) → Judged long st l (Ok tt) w → w ≡ Ok tt → v ≡ own → Judged long st l own v
  judged-last own w v j i e =
      let p = judged_passed (Ok tt) w j i in
      subst (Judged long st l own) (sym e) (is_judged p.0 p.1)

-- the queries of a list that checks 1 and 2 let pass
pub held_is : (st : State) (l : List ℕ) (checked : Checked) → ListOf st l checked → held checked.queries ≡ used st.registered l
held_is st l checked o = ap₂ used o.used o.numbers

-- ---- checks 1 and 2, as the code makes them

module _ (st : State) (l : List ℕ) (t : Tables) where
  -- a table that is too short
  pub short_tables : tables_long t ≡ false → machine_long (machine st l t) ≡ false
  unfolding machine_long
  short_tables e = rw (e, and_false (leb list_places (length l)))

  -- a list that is too short
  pub short_list : length l < list_places → machine_long (machine st l t) ≡ false
  unfolding machine_long
  short_list h = rw (lt-leb list_places (length l) h)

  -- neither
  pub long_both : tables_long t ≡ true → list_places ≤ length l → machine_long (machine st l t) ≡ true
  unfolding machine_long
  long_both e h = rw (le-leb list_places (length l) h, e)

  -- a list that checks 1 and 2 refuse, on tables that are long enough
  pub list_refused : tables_long t ≡ true → (e : Refusal)
      → ((length l < list_places) × (e ≡ TableTooShort)) ⊎ ((list_places ≤ length l) × (list_fits st.count st.registered l ≡ false) × (e ≡ Damaged))
      → Judged (machine_long (machine st l t)) st l (Ok tt) (Err e)
  list_refused long e (inl h) = rw h.1 (is_short (short_list h.0))
  list_refused long e (inr h) = rw h.2 (is_damaged (long_both long h.0) (λ i. true≢false (sym i.list ∙ h.1)))
