-- What the engine promises of a call is what the session promises of the line that asks for it.
-- Assumes nothing.
use Prim.Native.Nat.{ℕ, zero, suc, ◌*◌}
use native.Mathlib.Omega.{arith}
use mathlib.Core.Path.{◌≡◌, refl, sym, ap, ◌∙◌}
use mathlib.Core.List.{List, [], ◌∷◌}
use Rattle.std.specs.Prelude.{Result, Ok, Err}
use lib.IntN.{ℤ}
use lib.ListN.{length, drop, length-append}
use Rattle.window.specs.declared.refusal.Refusal.{Refusal}
use Rattle.window.specs.Refusals.{answer_places, refusal_number}
use Rattle.window.specs.Calls.{Call, register, withdraw, reading, accepted, refused}
use Rattle.window.specs.Model as model
use Rattle.window.specs.Model.{step}
use Rattle.engine.specs.Answers.{places, answers_in}
use Rattle.engine.specs.Machine.{Machine}
use Rattle.engine.specs.Outcomes.{reading_outcome}
use Rattle.engine.specs.Promises.{Ensures, places_after, ReadingEnsures}
use Rattle.engine.proofs.Places.{places-length}
use Rattle.board.proofs.Lending.{tables-same}
use Rattle.registry.proofs.Laying.{kept_same}
use Rattle.parse.specs.declared.line.Line.{Line}
use Rattle.window.specs.declared.query.Registration.{Registration}
use Rattle.parse.specs.declared.line.Line.TheVariants.{Register, Withdraw, Reading}
use Rattle.session.specs.Meaning.{answer_table, line_step}
use Rattle.session.specs.Promises.{Within, CallEnsures}

-- ---- registrations and withdrawals

-- a call that has no answers, for the line that asks for it: it was accepted or refused, as the result says
done : (c : Call) (asked : Result Line Refusal) (m m' : Machine) (o : Result ℕ Refusal) (t : List ℤ) → ((s : model.State) → line_step s asked ≡ step s c)
    → Within o t → Ensures c m (reading_outcome o t) m' → CallEnsures asked m o t m'
done c asked m m' o t e w p =
    record {
      within = w;
      agrees = λ s h. p.agrees s h ∙ sym (ap (λ (x : model.Stepped). x.outcome) (e s));
      represents = λ s h. rw (e s) (p.represents s h);
      unchanged = p.unchanged;
      list_kept = p.list_kept;
      kept = p.kept;
    }

module _ (m m' : Machine) (t : List ℤ) {asked : Result Line Refusal} {line : Line} (accept : asked ≡ Ok line) where
  -- a registration that was accepted, and one that was refused
  pub registered : {q : Registration} → line ≡ Register q
      → Ensures (register q.number q.kind q.range q.slide) m (accepted (0 ∷ []) []) m' → CallEnsures asked m (Ok 0) t m'
  unfolding line_step
  registered {q} names p = rw (accept, names) (done (register q.number q.kind q.range q.slide) _ m m' (Ok 0) t (λ s. refl) (omega arith) p)

  pub not_registered : {q : Registration} (r : Refusal) → line ≡ Register q
      → Ensures (register q.number q.kind q.range q.slide) m (refused (refusal_number r)) m' → CallEnsures asked m (Err r) t m'
  unfolding line_step
  not_registered {q} r names p = rw (accept, names) (done (register q.number q.kind q.range q.slide) _ m m' (Err r) t (λ s. refl) tt p)

  -- the same of a withdrawal
  pub withdrawn : {number : ℕ} → line ≡ Withdraw number
      → Ensures (withdraw number) m (accepted (0 ∷ []) []) m' → CallEnsures asked m (Ok 0) t m'
  unfolding line_step
  withdrawn {number} names p = rw (accept, names) (done (withdraw number) _ m m' (Ok 0) t (λ s. refl) (omega arith) p)

  pub not_withdrawn : {number : ℕ} (r : Refusal) → line ≡ Withdraw number
      → Ensures (withdraw number) m (refused (refusal_number r)) m' → CallEnsures asked m (Err r) t m'
  unfolding line_step
  not_withdrawn {number} r names p = rw (accept, names) (done (withdraw number) _ m m' (Err r) t (λ s. refl) tt p)

-- ---- readings

answers-count : (k : ℕ) (t : List ℤ) → length (answers_in k t) ≡ k
answers-count zero t = refl
answers-count (suc k) t = ap suc (answers-count k (drop answer_places t))

-- what was written stands in the table
written-within : (o : Result ℕ Refusal) (before after : List ℤ) → after ≡ places_after (reading_outcome o after) before → Within o after
written-within (Ok k) before after e =
    omega (arith, ap length e, length-append (places (answers_in k after)) (drop (answer_places * length (answers_in k after)) before), places-length (answers_in k after), answers-count k after)
written-within (Err r) before after e = tt

taken : (v : ℤ) (m m' : Machine) (o : Result ℕ Refusal) (before after : List ℤ) → ReadingEnsures v before after m (reading_outcome o after) m'
    → Ensures (reading v answer_table) m (reading_outcome o after) m' → CallEnsures (Ok (Reading v)) m o after m'
unfolding line_step
taken v m m' o before after p q =
    record {
      within = written-within o before after p.places;
      agrees = q.agrees;
      represents = q.represents;
      unchanged = q.unchanged;
      list_kept = q.list_kept;
      kept = q.kept;
    }

pub read : {v v' : ℤ} {m m' : Machine} {o : Result ℕ Refusal} {before after : List ℤ} {asked : Result Line Refusal} {line : Line} → asked ≡ Ok line → line ≡ Reading v' → v ≡ v' → length before ≡ answer_table
    → ReadingEnsures v before after m (reading_outcome o after) m' → CallEnsures asked m o after m'
read {v} {v'} {m} {m'} {o} {before} {after} accept names same long p =
    rw (accept, names, sym same) (taken v m m' o before after p (rw long at p.ensures))

-- ---- lines that are refused

pub not-called : {r : Refusal} {m : Machine} {t : List ℤ} {asked : Result Line Refusal} → asked ≡ Err r → CallEnsures asked m (Err r) t m
unfolding line_step
not-called {r} {m} {t} e =
    rw e (record { within = tt; agrees = λ s h. refl; represents = λ s h. h; unchanged = λ k q. refl; list_kept = kept_same m.list; kept = tables-same m.tables })
