-- From state and tables that are the model's: the answers of the due queries are the model's.
-- Assumes nothing.
use mathlib.Core.Path.{◌≡◌, refl, sym, ap, ◌∙◌, subst}
use mathlib.Core.Bool.{Bool, true, false, true≢false, cond}
use native.Mathlib.Omega.{arith}
use borrow.Author.Tests.{ne_eqb, eqb-true}
use mathlib.Core.List.{List, [], ◌∷◌, map}
use Prim.Native.Nat.{ℕ, ◌≤◌}
use lib.Dec.{eqb}
use lib.IntN.{ℤ, pos}
use lib.Signed.{le_z}
use lib.ListN.{length}
use Rattle.window.specs.declared.query.Query.{Query}
use Rattle.window.specs.Lists.{Each}
use Rattle.window.specs.Orders.{ge_z, sum, maximum, minimum}
use Rattle.window.specs.Queries.{sum_kind, count_kind, maximum_kind, due, window_start, horizon}
use Rattle.window.specs.Partials.{Partial, readings_of, entries, partials_from, entries_from, value_of}
use Rattle.window.specs.Refusals.{due_at}
use Rattle.window.specs.Model as model
use Rattle.window.specs.Model.{count, window_value, window, answer, answers}
use Rattle.window.specs.Invariant.{Invariant, FromPartials}
use Rattle.window.proofs.Orders.{le_z_order, ge_z-order}
use Rattle.window.proofs.Queries.{horizon_le}
use Rattle.window.proofs.Tiling.{entries_from_lem}
use Rattle.window.proofs.Windows.{due_from_partials}
use Rattle.board.specs.declared.aggregate.Aggregate.{Aggregate}
use Rattle.board.specs.Tables.{Tables}
use Rattle.board.specs.Aggregates.{sum_of, maximum_of, minimum_of, closed_from}
use Rattle.board.specs.Ledgers.{value_over}
use Rattle.engine.specs.declared.state.State.{State}
use Rattle.engine.specs.Answers.{answer_with, value_in, answer_in, Backing}
use Rattle.engine.specs.Machine.{closed_of, ledger_of, StateIs}
use Rattle.engine.proofs.Ledgers.{from_closed, values-closed}

module _ (s : model.State) (q : Query) (given : FromPartials s q) where
  -- the values of what is closed from the window start on are those of the entries
  values_are : (f : Aggregate → ℤ) (g : List ℤ → ℤ) → ((p : Partial) → f (closed_of s.readings p) ≡ g (readings_of s.readings p))
      → map f (closed_from (window_start (count s) q) (ledger_of s).closed) ≡ map value_of (entries_from (window_start (count s) q) (entries g s.readings s.closed))
  values_are f g same =
      let w : ℕ = window_start (count s) q in
      ap (map f) (from_closed s.readings w s.closed)
      ∙ values-closed s.readings f g same (partials_from w s.closed)
      ∙ ap (map value_of) (sym (entries_from_lem g s.readings w s.closed))

  -- the value of the window, whatever the kind
  value_is : value_in (ledger_of s).closed (count s) q ≡ window_value q.kind (window s.readings q)
  unfolding value_in value_over
  value_is =
      go (eqb q.kind sum_kind) (eqb q.kind count_kind) (eqb q.kind maximum_kind) (λ e. ne_eqb q.kind count_kind (λ f. two_not-one (sym (eqb-true q.kind sum_kind e) ∙ f)))
      (ap sum (values_are sum_of sum (λ p. refl)) ∙ sym given.sums)
      (ap pos (sym given.counts))
      (ap maximum (values_are maximum_of maximum (λ p. refl)) ∙ sym (given.extremes le_z le_z_order))
      (ap minimum (values_are minimum_of minimum (λ p. refl)) ∙ sym (given.extremes ge_z ge_z-order))
    where
      two_not-one : sum_kind ≡ count_kind → ⊥
      two_not-one e = omega arith

      go : (b c d : Bool) → (b ≡ true → c ≡ false) → {u u' v v' x x' y y' : ℤ} → u ≡ u' → v ≡ v' → x ≡ x' → y ≡ y'
          → cond c v (cond b u (cond d x y)) ≡ cond b u' (cond c v' (cond d x' y'))
      go true true d n e f g h = absurd (true≢false (n refl))
      go true false d n e f g h = e
      go false true d n e f g h = f
      go false false true n e f g h = g
      go false false false n e f g h = h

  -- the answer
  answer_is : answer_in (ledger_of s).closed (count s) q ≡ answer s.readings q
  unfolding answer_in answer
  answer_is = ap (λ (n : ℕ). answer_with q n (value_in (ledger_of s).closed (count s) q)) (sym given.counts) ∙ ap (answer_with q (length (window s.readings q))) value_is

-- the board stands behind the answers
abbrev pub backing : (s : model.State) (st : State) (t : Tables) (qs : List Query) → qs ≡ s.queries → StateIs s st t → Backing st.count qs st.board t
backing s st t qs e i =
    let h : ℕ = horizon (count s) s.queries in
    record {
      horizon = h;
      ledger = ledger_of s;
      holds = i.board;
      early = subst (λ (x : List Query). Each (λ (q : Query). h ≤ window_start st.count q) x) (sym e)
          (subst (λ (n : ℕ). Each (λ (q : Query). h ≤ window_start n q) s.queries) (sym i.count) (horizon_le (count s) s.queries));
    }

-- the answers of the due queries, from what is closed, are the model's
pub answers_are : (s : model.State) (n : ℕ) → Invariant s → n ≡ count s → map (answer_in (ledger_of s).closed n) (due_at n s.queries) ≡ answers s
unfolding answers
answers_are s n v e =
    ap (λ (k : ℕ). map (answer_in (ledger_of s).closed k) (due_at k s.queries)) e ∙ each s.queries (due_from_partials s v)
  where
    each : (qs : List Query) → Each (λ (q : Query). due (count s) q ≡ true → FromPartials s q) qs
        → map (answer_in (ledger_of s).closed (count s)) (due_at (count s) qs) ≡ map (answer s.readings) (due_at (count s) qs)
    each [] f = refl
    each (q ∷ qs) f = go (due (count s) q) refl (each qs f.1)
      where
        go : (b : Bool) → due (count s) q ≡ b → map (answer_in (ledger_of s).closed (count s)) (due_at (count s) qs) ≡ map (answer s.readings) (due_at (count s) qs)
            → map (answer_in (ledger_of s).closed (count s)) (cond b (q ∷ due_at (count s) qs) (due_at (count s) qs)) ≡ map (answer s.readings) (cond b (q ∷ due_at (count s) qs) (due_at (count s) qs))
        go true x ih = rw (answer_is s q (f.0 x), ih)
        go false x ih = ih
