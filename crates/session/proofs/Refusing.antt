-- Where there is no room for a line, or the engine refuses every call, a session takes nothing; where a state of the
-- model is represented and there is room it never is so.
-- Assumes nothing.
use Prim.Native.Nat.{ℕ, ◌≤◌}
use mathlib.Core.Path.{◌≡◌, refl, sym, ap, ◌∙◌}
use mathlib.Core.Bool.{Bool, true, false, not, ◌||◌, true≢false}
use mathlib.Core.List.{[], ◌∷◌}
use lib.Dec.{ltb}
use borrow.Author.Tests.{ltb-false, le-ltb}
use lib.ListN.{length}
use Rattle.std.specs.Prelude.{Result, Ok, Err, is_err}
use Rattle.window.specs.declared.refusal.Refusal.{Refusal}
use Rattle.window.specs.Refusals.{refusal_number}
use Rattle.window.specs.Calls.{totals, refused}
use Rattle.window.specs.Model as model
use Rattle.window.specs.Model.{count, step, step_at, totals_of}
use Rattle.window.proofs.Steps.{accepted-refused}
use Rattle.engine.specs.declared.calls.Tally.{Tally}
use Rattle.engine.specs.Machine.{Machine, machine_long}
use Rattle.engine.specs.Outcomes.{totals_outcome}
use Rattle.engine.specs.Promises.{Ensures, list_damaged}
use Rattle.parse.specs.Kept.{kept_length}
use Rattle.session.specs.Promises.{refuses_all, RefusesEnsures}

module _ (m : Machine) (room : ℕ) where
  -- ---- where not all is refused

  -- as the code finds it
  pub open_where : {refuses : Bool} → RefusesEnsures m room refuses → refuses ≡ false → refuses_all m room ≡ false
  open_where {refuses} told e = go (refuses_all m room) refl
    where
      go : (b : Bool) → refuses_all m room ≡ b → b ≡ false
      go true q = absurd (true≢false (sym (told.always q) ∙ e))
      go false q = refl

  -- so there is room for a line
  pub open-room : refuses_all m room ≡ false → kept_length ≤ room
  unfolding refuses_all
  open-room e = go (ltb room kept_length) refl e
    where
      go : (b : Bool) → ltb room kept_length ≡ b → (b || (not (machine_long m) || list_damaged m)) ≡ false → kept_length ≤ room
      go true q f = absurd (true≢false f)
      go false q f = ltb-false room kept_length q

  -- ---- what totals tells, where there is

  module _ (reply : Result Tally Refusal) (told : Ensures totals m (totals_outcome reply) m) (long : kept_length ≤ room) where
    -- totals that are accepted
    pub not-refused : {t : Tally} → reply ≡ Ok t → RefusesEnsures m room false
    unfolding refuses_all
    not-refused {t} e =
        record {
          always = λ q. absurd (go (machine_long m) refl (sym (ap (λ (x : Bool). x || (not (machine_long m) || list_damaged m)) (le-ltb room kept_length long)) ∙ q));
          never = λ s h l. refl;
        }
      where
        -- no refusal came
        none : (k : ℕ) → totals_outcome reply ≡ refused k → ⊥
        none k q = accepted-refused (t.count ∷ t.closed ∷ t.max_comparisons ∷ t.min_comparisons ∷ []) [] k (sym (ap totals_outcome e) ∙ q)

        go : (long : Bool) → machine_long m ≡ long → (not long || list_damaged m) ≡ true → ⊥
        go false l q = none 1 (told.short l)
        go true l q = none 2 (told.broken l q)

    -- totals that are refused
    pub refused-always : {r : Refusal} → reply ≡ Err r → RefusesEnsures m room true
    unfolding step_at totals_of
    refused-always {r} e = record { always = λ q. refl; never = λ s h l. absurd (none s (told.agrees s h)) }
      where
        none : (s : model.State) → totals_outcome reply ≡ (step s totals).outcome → ⊥
        none s q = accepted-refused (count s ∷ length s.closed ∷ s.max_comparisons ∷ s.min_comparisons ∷ []) [] (refusal_number r) (sym q ∙ ap totals_outcome e)

    -- so all is refused exactly where totals are
    pub refused_as : (refuses : Bool) → refuses ≡ is_err reply → RefusesEnsures m room refuses
    refused_as refuses e = rw e (go reply refl)
      where
        go : (r : Result Tally Refusal) → reply ≡ r → RefusesEnsures m room (is_err r)
        go (Ok t) q = not-refused q
        go (Err r) q = refused-always q
