-- What check 2 gives: a state that passes it is ready for a closing, also with one reading more; and state and queries
-- that are the model's pass it.
-- Assumes nothing.
use mathlib.Core.Path.{◌≡◌, refl, sym, ap, ◌∙◌, subst}
use mathlib.Core.Bool.{true}
use mathlib.Core.List.{List}
use Prim.Native.Nat.{ℕ, ◌+◌, ◌-◌, ◌*◌, ◌≤◌, ◌<◌}
use native.Mathlib.Nat.{le_refl}
use native.Mathlib.Omega.{arith}
use lib.IntN.{ℤ, ◌+ℤ◌}
use lib.ListN.{length, take, length-map}
use lib.Seq.{length-slice}
use Rattle.ints.specs.Sizes.{Small}
use Rattle.ints.proofs.Sizes.{small-more, small_add, small-reading}
use Rattle.window.specs.Lists.{Each}
use Rattle.window.specs.Orders.{sum}
use Rattle.window.specs.Queries.{count_limit}
use Rattle.window.specs.Partials.{between}
use Rattle.window.specs.Refusals.{damaged}
use Rattle.window.specs.Calls.{IsReading}
use Rattle.window.specs.Model as model
use Rattle.window.specs.Model.{count}
use Rattle.window.specs.Invariant.{Invariant}
use Rattle.window.proofs.Lists.{each_take, each_drop}
use Rattle.window.proofs.Tiling.{ordered-count}
use Rattle.window.proofs.Bounds.{bounded, sum_bound}
use Rattle.deque.specs.Sums.{sum_limit}
use Rattle.registry.specs.Records.{used, list_fits}
use Rattle.registry.proofs.Intact.{intact-fits}
use Rattle.board.specs.declared.aggregate.Aggregate.{Aggregate}
use Rattle.engine.specs.declared.partial.Open.{Open}
use Rattle.engine.specs.declared.partial.Open.TheVariants.{Nothing, Empty, Holding}
use Rattle.engine.specs.declared.state.State.{State}
use Rattle.engine.specs.Open.{reading_size, size_limit, open_with, FitsAggregate, FitsOpen}
use Rattle.board.specs.Tables.{Tables}
use Rattle.board.proofs.Holding.{holds-within}
use Rattle.engine.specs.States.{Sound, Intact, with_reading}
use Rattle.engine.specs.Closings.{Ready}
use Rattle.engine.specs.Machine.{Machine, OpenIs, horizon_of, closed_of, ledger_of, ListIs, StateIs, Represents}
use Rattle.engine.proofs.Aggregates.{holding_small}
use Rattle.engine.proofs.Refinement.{open_start_lem}

-- ---- the open partial's sum

-- where a partial that holds readings is open, its sum is at most b in size
abbrev SmallOpen : ℕ → Open → Type 0
SmallOpen b Nothing = Unit {0}
SmallOpen b Empty = Unit {0}
SmallOpen b (Holding a) = Small b a.sum

-- with one reading more it is within the bound that the rings ask
with_small : (n closed : ℕ) (v : ℤ) → IsReading v → (o : Open) → FitsOpen n closed o → SmallOpen sum_limit (open_with n v o)
with_small n closed v r Nothing f = tt
with_small n closed v r Empty f = small-more reading_size sum_limit v (omega arith) (small-reading v r)
with_small n closed v r (Holding a) f =
    small-more (size_limit + reading_size) sum_limit (a.sum +ℤ v) (omega arith) (small_add size_limit reading_size a.sum v (holding_small n closed (Holding a) a refl f) (small-reading v r))

-- ---- a state that passes check 2

module _ (st : State) (ok : Sound st) where
  -- an open partial that holds readings fits
  holding_fits : (a : Aggregate) → st.partial ≡ Holding a → FitsAggregate st.count st.board.closed a
  holding_fits a e = subst (FitsOpen st.count st.board.closed) e ok.partial

  -- it is ready for a closing with this open, at any count, where a partial that holds readings is small and one more
  -- can be counted
  ready_with : (n : ℕ) (o : Open) → st.count ≤ count_limit → ((a : Aggregate) → o ≡ Holding a → Small sum_limit a.sum × (st.board.closed < count_limit))
      → Ready (record { count = n; registered = st.registered; partial = o; board = st.board })
  ready_with n o l p =
      record { board = ok.board; partial = p }

  -- so it is as it stands
  pub sound_ready : st.count ≤ count_limit → Ready st
  sound_ready l =
      ready_with st.count st.partial l
      (λ a e.
      let f : FitsAggregate st.count st.board.closed a = holding_fits a e in
      (small-more size_limit sum_limit a.sum (omega arith) (holding_small st.count st.board.closed st.partial a e ok.partial), omega (arith, f.after, f.holds)))

  -- and with one reading more
  pub sound_taken : (v : ℤ) → st.count < count_limit → IsReading v → Ready (with_reading v st)
  sound_taken v l r =
      ready_with (st.count + 1) (open_with st.count v st.partial) (omega (arith, l))
      (λ a e. (subst (SmallOpen sum_limit) e (with_small st.count st.board.closed v r st.partial ok.partial), omega (arith, ok.early, l)))

-- ---- what represents the model passes check 2

-- the sum of the readings from a + 1 to n is at most n - a readings in size
stretch_small : (rs : List ℤ) (a : ℕ) → Each IsReading rs → Small ((length rs - a) * reading_size) (sum (between rs a (length rs)))
stretch_small rs a h =
    subst (λ (k : ℕ). Small (k * reading_size) (sum (between rs a (length rs)))) (length-slice a (length rs) rs (le_refl (length rs)))
    (sum_bound (between rs a (length rs)) (each_drop IsReading a (take (length rs) rs) (each_take IsReading (length rs) rs h)))

module _ (s : model.State) (v : Invariant s) (readings : Each IsReading s.readings) where
  -- what is open in the model fits
  open_fits : (o : Open) → OpenIs o s → FitsOpen (count s) (length s.closed) o
  open_fits Nothing h = tt
  open_fits Empty h = tt
  open_fits (Holding a) h =
      record {
        after = omega (arith, ordered-count 0 s.closed a.start (open_start_lem s v a.start h.start).0);
        holds = h.holds;
        short = (bounded s v).open_short a.start h.start;
        small = subst (Small ((count s - a.start) * reading_size)) (sym h.sum) (stretch_small s.readings a.start readings);
      }

  -- a state that is the model's is sound
  pub state_sound : (st : State) (t : Tables) → StateIs s st t → Sound st
  state_sound st t i =
      let b = i.board in
      let p : st.board.closed ≡ length s.closed = b.closed ∙ length-map s.closed (closed_of s.readings) in
      record {
        early = omega (arith, i.count, p, (bounded s v).closed_count);
        board = holds-within (horizon_of s) (ledger_of s) st.board t b;
        partial =
            subst (λ (n : ℕ). FitsOpen n st.board.closed st.partial) (sym i.count)
            (subst (λ (c : ℕ). FitsOpen (count s) c st.partial) (sym p) (open_fits st.partial i.partial));
      }

  -- a list that is the model's passes
  pub list-fits : (n k : ℕ) (l : List ℕ) → n ≡ count s → ListIs s k l → list_fits n k l ≡ true
  list-fits n k l e i =
      intact-fits n k l i.in_order
      (ap (λ (m : ℕ). damaged m k (used k l)) e
      ∙ ap (damaged (count s) k) i.queries
      ∙ ap (λ (c : ℕ). damaged (count s) c s.queries) i.count
      ∙ (bounded s v).not_damaged)

-- what represents a state of the model passes check 2
pub represents-intact : (s : model.State) (m : Machine) → Represents s m → Intact m.state m.list
represents-intact s m r =
    record {
      list = list-fits s r.invariant r.readings m.state.count m.state.registered m.list r.state.count r.list;
      state = state_sound s r.invariant r.readings m.state m.tables r.state;
    }
