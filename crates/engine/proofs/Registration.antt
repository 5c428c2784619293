-- The engine refines the model: what a registration, a withdrawal and a start make of state and tables is what they
-- make of the model's state.
-- Assumes nothing.
use mathlib.Core.Path.{◌≡◌, refl, sym, subst}
use mathlib.Core.Bool.{Bool, not, cond}
use mathlib.Core.Option.{Option, none, some}
use mathlib.Core.List.{List, [], ◌∷◌, ◌++◌}
use Prim.Native.Nat.{ℕ, ◌+◌, ◌≤◌}
use native.Mathlib.Omega.{arith}
use lib.IntN.{ℤ}
use lib.ListN.{length}
use borrow.Author.Tests.{ne_eqb}
use Rattle.window.specs.declared.query.Query.{Query}
use Rattle.window.specs.Lists.{filter, Each}
use Rattle.window.specs.Queries.{horizon}
use Rattle.window.specs.Refusals.{has_number}
use Rattle.window.specs.Model as model
use Rattle.window.specs.Model.{state_with, count, initial, close_where, holds_reading, with_query, after_register, open_if_any, after_withdraw}
use Rattle.window.specs.Invariant.{Invariant}
use Rattle.window.proofs.Queries.{horizon-more, horizon_fewer}
use Rattle.window.proofs.Bounds.{bounded}
use Rattle.window.proofs.Steps.{close_keeps}
use Rattle.board.proofs.Holding.{holds_rises}
use Rattle.engine.specs.declared.partial.Open.{Open}
use Rattle.engine.specs.declared.partial.Open.TheVariants.{Nothing, Empty, Holding}
use Rattle.engine.specs.declared.state.State.{State}
use Rattle.board.specs.Tables.{Tables}
use Rattle.engine.specs.States.{FreshState, with_one_more, left_with}
use Rattle.engine.specs.Closings.{OpenClosed}
use Rattle.engine.specs.Machine.{OpenIs, ledger_of, StateIs}
use Rattle.engine.proofs.Refinement.{open_start_lem, open_closed_is}

-- ---- other queries, and another partial open

-- the state s of the model with these queries, and with the open partial that starts at x
abbrev requeried : model.State → List Query → Option ℕ → model.State
requeried s qs x = state_with s.readings qs x s.closed s.max_comparisons s.min_comparisons

-- where they do not move the horizon back and the same is open in both, it is represented by the same board
requeried_is : (s : model.State) (qs : List Query) (x : Option ℕ) (o : Open) (st : State) (t : Tables)
    → horizon (count s) s.queries ≤ horizon (count s) qs → OpenIs o (requeried s qs x) → StateIs s st t
    → (r : ℕ) → StateIs (requeried s qs x) (record { count = st.count; registered = r; partial = o; board = st.board }) t
requeried_is s qs x o st t l k i r =
    record {
      count = i.count;
      partial = k;
      board = holds_rises (horizon (count s) s.queries) (horizon (count s) qs) (ledger_of s) st.board t l i.board;
    }

-- what is open does not depend on the queries
requeried_open : (s : model.State) (qs : List Query) (o : Open) → OpenIs o s → OpenIs o (requeried s qs s.open_start)
requeried_open s qs Nothing h = h
requeried_open s qs Empty h = h
requeried_open s qs (Holding a) h = record { start = h.start; holds = h.holds; sum = h.sum; maximum = h.maximum; minimum = h.minimum }

-- ---- a registration

-- a query joins: the open partial starts at n, and the horizon stays
joined_is : (s : model.State) (q : Query) (st : State) (t : Tables) → Each (λ (p : Query). p.origin ≤ count s) s.queries → q.origin ≡ count s
    → StateIs s st t → StateIs (with_query s q) (with_one_more st) t
unfolding with_query
joined_is s q st t early e i =
    requeried_is s (s.queries ++ (q ∷ [])) (some (count s)) Empty st t (omega (arith, horizon-more (count s) s.queries q early e)) refl i (st.registered + 1)

-- what a registration makes of state and tables is the model's
pub registered_is : (s : model.State) (q : Query) (st : State) (t : Tables) (st' : State) (t' : Tables) → Invariant s → StateIs s st t → q.origin ≡ count s
    → OpenClosed st.partial (horizon (count s) s.queries) st t st' t'
    → StateIs (after_register s q) (with_one_more st') t'
unfolding after_register
registered_is s q st t st' t' i r e c =
    let b : Bool = holds_reading (count s) s.open_start in
    joined_is (close_where b s.open_start s) q st' t'
    (close_keeps (λ (rs : List ℤ) (qs : List Query). Each (λ (p : Query). p.origin ≤ length rs) qs) b s.open_start s (bounded s i).origins_early)
    (close_keeps (λ (rs : List ℤ) (qs : List Query). q.origin ≡ length rs) b s.open_start s e)
    (open_closed_is s st t st' t' r i.within_limits.limits (λ a k. (open_start_lem s i a k).0) c)

-- ---- a withdrawal

-- what a withdrawal makes of the state is the model's: the open partial is dropped where no query is left
pub withdrawn_is : (s : model.State) (number : ℕ) (st : State) (t : Tables) → Invariant s → StateIs s st t
    → StateIs (after_withdraw s number) (left_with (length (filter (λ (q : Query). not (has_number number q)) s.queries)) st) t
unfolding after_withdraw
withdrawn_is s number st t i r =
    go (filter keep s.queries) (horizon_fewer (count s) keep s.queries (bounded s i).origins_early)
  where
    keep : Query → Bool
    keep = λ (q : Query). not (has_number number q)

    go : (qs : List Query) → horizon (count s) s.queries ≤ horizon (count s) qs → StateIs (requeried s qs (open_if_any qs s.open_start)) (left_with (length qs) st) t
    go [] l = requeried_is s [] none Nothing st t l refl r 0
    go (q ∷ qs) l =
        subst (λ (b : Bool). StateIs (requeried s (q ∷ qs) s.open_start) (record { count = st.count; registered = length (q ∷ qs); partial = cond b Nothing st.partial; board = st.board }) t) (sym (ne_eqb (length (q ∷ qs)) 0 (λ e. omega arith)))
        (requeried_is s (q ∷ qs) s.open_start st.partial st t l (requeried_open s (q ∷ qs) st.partial r.partial) r (length (q ∷ qs)))

-- ---- a start

-- a fresh state is the model's first, on whatever tables
pub fresh_is : (st : State) (t : Tables) → FreshState st → StateIs initial st t
fresh_is st t f =
    record {
      count = f.count;
      partial = subst (λ (o : Open). OpenIs o initial) (sym f.partial) refl;
      board = f.board.holds 0 t;
    }
