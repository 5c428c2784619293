-- The engine refines the model: what a closing and a reading make of state and tables is what they make of the model's
-- state.
-- Assumes nothing.
use mathlib.Core.Path.{◌≡◌, refl, sym, ap, ◌∙◌, subst}
use mathlib.Core.Bool.{Bool, true, false, cond}
use mathlib.Core.Option.{Option, none, some}
use mathlib.Core.List.{List, [], ◌∷◌, ◌++◌}
use Prim.Native.Nat.{ℕ, ◌+◌, ◌≤◌, ◌<◌}
use native.Mathlib.Nat.{le_refl}
use native.Mathlib.Omega.{arith}
use lib.IntN.{ℤ, pos, ◌+ℤ◌, +ℤ_assoc}
use lib.Signed.{le_z}
use lib.ListN.{length, length-append, drop}
use lib.Seq.{slice_empty, length-slice, take-length, drop-append-le}
use borrow.Author.Tests.{le-ltb, lt-ltb}
use Rattle.window.specs.Lists.{any, Each}
use Rattle.window.specs.Orders.{aggregate, greater, ge_z, sum, maximum, minimum}
use Rattle.window.specs.Queries.{Limits, edge, horizon}
use Rattle.window.specs.Partials.{spanning, between}
use Rattle.window.specs.Model as model
use Rattle.window.specs.Model.{count, close_at, close_where, holds_reading, reading_taken, close_at_edge, after_reading}
use Rattle.window.specs.Invariant.{Ordered, Shape, Invariant}
use Rattle.window.proofs.Orders.{le_z_order, ge_z-order, greater_assoc, aggregate-append}
use Rattle.window.proofs.Queries.{horizon_far, horizon-later}
use Rattle.window.proofs.Tracking.{shape-ordered}
use Rattle.deque.specs.Rings.{capacity}
use Rattle.board.specs.declared.aggregate.Aggregate.{Aggregate}
use Rattle.board.specs.Tables.{Tables}
use Rattle.board.specs.Ledgers.{Ledger, ledger, close_with}
use Rattle.board.specs.Boards.{Holds}
use Rattle.board.proofs.Holding.{holds_rises}
use Rattle.engine.specs.declared.partial.Open.{Open}
use Rattle.engine.specs.declared.partial.Open.TheVariants.{Nothing, Empty, Holding}
use Rattle.engine.specs.declared.state.State.{State}
use Rattle.engine.specs.Open.{open_with}
use Rattle.engine.specs.States.{with_reading}
use Rattle.engine.specs.Closings.{Closed, OpenClosed, ClosedWhere}
use Rattle.engine.specs.Machine.{HoldingIs, OpenIs, closed_of, ledger_of, StateIs}
use Rattle.engine.proofs.Ledgers.{closed_stable, closed-before, ledger-closed, aggregate_is}

-- ---- a closing

-- an open partial that holds readings is the model's
pub holding_is : (s : model.State) (st : State) (t : Tables) (a : Aggregate) → StateIs s st t → st.partial ≡ Holding a → HoldingIs a s
holding_is s st t a i e = subst (λ (o : Open). OpenIs o s) e i.partial

-- the closing of the open partial is the model's
pub closed_is : (s : model.State) (a : Aggregate) (st : State) (t : Tables) (st' : State) (t' : Tables) → StateIs s st t → st.partial ≡ Holding a
    → Each Limits s.queries → Ordered 0 s.closed a.start → Closed a (horizon (count s) s.queries) st t st' t'
    → StateIs (close_at s a.start) st' t'
unfolding close_at
closed_is s a st t st' t' i e g o c =
    let h : ℕ = horizon (count s) s.queries in
    let same : HoldingIs a s = holding_is s st t a i e in
    let is : a ≡ closed_of s.readings (spanning a.start (count s)) = aggregate_is a _ _ _ same.sum same.maximum same.minimum in
    let near : a.start < h + capacity = omega (arith, same.holds, horizon_far (count s) s.queries g) in
    record {
      count = c.count ∙ i.count;
      partial = subst (λ (x : Open). OpenIs x (close_at s a.start)) (sym c.partial) refl;
      board =
          subst (λ (l : Ledger). Holds h l st'.board t') (ap (λ (x : Aggregate). close_with h x (ledger_of s)) is ∙ ledger-closed s a.start)
          (c.board.holds (ledger_of s) i.board (closed-before s.readings 0 s.closed a.start o) near);
    }

module _ (s : model.State) (st : State) (t : Tables) (st' : State) (t' : Tables) (i : StateIs s st t) where
  -- where neither state nor tables change, they are the model's as they were
  unchanged_is : (st' ≡ st) × (t' ≡ t) → StateIs s st' t'
  unchanged_is e = subst (λ (x : State). StateIs s x t') (sym e.0) (subst (λ (x : Tables). StateIs s st x) (sym e.1) i)

  -- what is open closes where it holds a reading, as in the model
  pub open_closed_is : Each Limits s.queries → ((a : ℕ) → s.open_start ≡ some a → Ordered 0 s.closed a)
      → OpenClosed st.partial (horizon (count s) s.queries) st t st' t'
      → StateIs (close_where (holds_reading (count s) s.open_start) s.open_start s) st' t'
  unfolding close_where
  open_closed_is g o c = go st.partial refl i.partial c
    where
      n : ℕ
      n = count s

      -- the state that the model comes to, by what is open in it and by whether that holds a reading
      at-start : (x : Option ℕ) → s.open_start ≡ x → StateIs (close_where (holds_reading n x) x s) st' t'
          → StateIs (close_where (holds_reading n s.open_start) s.open_start s) st' t'
      at-start x e k = subst (λ (y : Option ℕ). StateIs (close_where (holds_reading n y) y s) st' t') (sym e) k

      go : (x : Open) → st.partial ≡ x → OpenIs x s → OpenClosed x (horizon n s.queries) st t st' t'
          → StateIs (close_where (holds_reading n s.open_start) s.open_start s) st' t'
      go Nothing e k d = at-start none k (unchanged_is d)
      go Empty e k d =
          at-start (some n) k (subst (λ (b : Bool). StateIs (cond b (close_at s n) s) st' t') (sym (le-ltb n n (le_refl n))) (unchanged_is d))
      go (Holding a) e k d =
          at-start (some a.start) k.start
          (subst (λ (b : Bool). StateIs (cond b (close_at s a.start) s) st' t') (sym (lt-ltb a.start n k.holds))
          (closed_is s a st t st' t' i e g (o a.start k.start) d))

-- ---- a reading

-- one reading more, at the end of the readings after a
between_snoc : (rs : List ℤ) (v : ℤ) (a : ℕ) → a ≤ length rs
    → between (rs ++ (v ∷ [])) a (length (rs ++ (v ∷ []))) ≡ between rs a (length rs) ++ (v ∷ [])
between_snoc rs v a l =
    ap (drop a) (take-length (rs ++ (v ∷ [])))
    ∙ drop-append-le a rs (v ∷ []) l
    ∙ ap (λ (xs : List ℤ). drop a xs ++ (v ∷ [])) (sym (take-length rs))

module _ (s : model.State) (v : ℤ) where
  -- n grows by one
  pub taken-count : count (reading_taken s v) ≡ count s + 1
  unfolding reading_taken
  taken-count = length-append s.readings (v ∷ [])

  -- of an open partial that holds readings, the aggregate with the new one
  aggregate-more : (op : ℤ → ℤ → ℤ) → ((x y z : ℤ) → op (op x y) z ≡ op x (op y z)) → (a : ℕ) → a < count s
      → op (aggregate op (pos 0) (between s.readings a (count s))) v ≡ aggregate op (pos 0) (between (reading_taken s v).readings a (count (reading_taken s v)))
  unfolding reading_taken
  aggregate-more op assoc a l =
      let xs : List ℤ = between s.readings a (count s) in
      let some_read : 0 < length xs = rw (length-slice a (count s) s.readings (le_refl (count s))) (omega arith) in
      sym (ap (aggregate op (pos 0)) (between_snoc s.readings v a (omega arith)) ∙ aggregate-append op (pos 0) assoc xs (v ∷ []) some_read (omega arith))

  -- the reading joins what is open
  open_taken : (o : Open) → OpenIs o s → OpenIs (open_with (count s) v o) (reading_taken s v)
  unfolding reading_taken
  open_taken Nothing e = e
  open_taken Empty e =
      let alone : v ∷ [] ≡ between (s.readings ++ (v ∷ [])) (count s) (length (s.readings ++ (v ∷ []))) =
      sym (between_snoc s.readings v (count s) (le_refl (count s)) ∙ ap (λ (xs : List ℤ). xs ++ (v ∷ [])) (slice_empty (count s) s.readings)) in
      record { start = e; holds = omega (arith, taken-count); sum = ap sum alone; maximum = ap maximum alone; minimum = ap minimum alone }
  open_taken (Holding a) h =
      record {
        start = h.start;
        holds = omega (arith, taken-count, h.holds);
        sum = ap (λ (x : ℤ). x +ℤ v) h.sum ∙ aggregate-more ◌+ℤ◌ +ℤ_assoc a.start h.holds;
        maximum = ap (λ (x : ℤ). greater le_z x v) h.maximum ∙ aggregate-more (greater le_z) (greater_assoc le_z le_z_order) a.start h.holds;
        minimum = ap (λ (x : ℤ). greater ge_z x v) h.minimum ∙ aggregate-more (greater ge_z) (greater_assoc ge_z ge_z-order) a.start h.holds;
      }

  -- the state with the reading is the model's
  pub taken_is : Ordered 0 s.closed (count s) → (st : State) (t : Tables) → StateIs s st t → StateIs (reading_taken s v) (with_reading v st) t
  unfolding reading_taken
  taken_is o st t i =
      let h : ℕ = horizon (count s) s.queries in
      let h' : ℕ = horizon (length (s.readings ++ (v ∷ []))) s.queries in
      let further : h ≤ h' = rw taken-count (horizon-later (count s) s.queries) in
      record {
        count = ap (λ (k : ℕ). k + 1) i.count ∙ sym taken-count;
        partial = subst (λ (k : ℕ). OpenIs (open_with k v st.partial) (reading_taken s v)) (sym i.count) (open_taken st.partial i.partial);
        board =
            subst (λ (cs : List Aggregate). Holds h' (ledger cs s.max_comparisons s.min_comparisons) st.board t) (sym (closed_stable s.readings (v ∷ []) 0 s.closed o))
            (holds_rises h h' (ledger_of s) st.board t further i.board);
      }

-- the closed partials are over by the start of the open one, and that is at most n
pub open_start_lem : (s : model.State) → Invariant s → (a : ℕ) → s.open_start ≡ some a → Ordered 0 s.closed a × (a ≤ count s)
open_start_lem s i a e =
    let k : Shape (some a) (count s) s.queries s.closed = subst (λ (o : Option ℕ). Shape o (count s) s.queries s.closed) e i.shape in
    (k.1, k.0)

-- after a reading what is open holds one, so an edge closes it
close_holding : (n : ℕ) (o : Option ℕ) (s : model.State) → ((a : ℕ) → o ≡ some a → a < n) → close_where (holds_reading n o) o s ≡ close_where true o s
unfolding close_where
close_holding n none s l = refl
close_holding n (some a) s l = ap (λ (b : Bool). cond b (close_at s a) s) (lt-ltb a n (l a refl))

-- and no edge closes nothing
close_not : (o : Option ℕ) (s : model.State) → close_where false o s ≡ s
unfolding close_where
close_not none s = refl
close_not (some a) s = refl

-- what a reading makes of state and tables is the model's
pub read_is : (s : model.State) (v : ℤ) (st : State) (t : Tables) (st' : State) (t' : Tables) → Invariant s → StateIs s st t
    → ClosedWhere (any (edge (count s + 1)) s.queries) (horizon (count s + 1) s.queries) (with_reading v st) t st' t'
    → StateIs (after_reading s v) st' t'
unfolding after_reading close_at_edge reading_taken ClosedWhere
read_is s v st t st' t' i r c =
    subst (λ (n : ℕ). StateIs (close_where (any (edge n) s.queries) s.open_start (reading_taken s v)) st' t') (sym (taken-count s v))
    (go (any (edge (count s + 1)) s.queries) c)
  where
    later : StateIs (reading_taken s v) (with_reading v st) t
    later = taken_is s v (shape-ordered s.open_start (count s) s.queries s.closed i.shape) st t r

    go : (b : Bool) → ClosedWhere b (horizon (count s + 1) s.queries) (with_reading v st) t st' t' → StateIs (close_where b s.open_start (reading_taken s v)) st' t'
    go true d =
        subst (λ (x : model.State). StateIs x st' t')
        (close_holding (count (reading_taken s v)) s.open_start (reading_taken s v) (λ a e. omega (arith, (open_start_lem s i a e).1, taken-count s v)))
        (open_closed_is (reading_taken s v) (with_reading v st) t st' t' later i.within_limits.limits (λ a e. (open_start_lem s i a e).0)
        (subst (λ (n : ℕ). OpenClosed (with_reading v st).partial (horizon n s.queries) (with_reading v st) t st' t') (sym (taken-count s v)) d))
    go false d = subst (λ (x : model.State). StateIs x st' t') (sym (close_not s.open_start (reading_taken s v))) (unchanged_is (reading_taken s v) (with_reading v st) t st' t' later d)
