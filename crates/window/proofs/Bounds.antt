-- The bounds of `Bounded` hold after every list of calls; and how large a sum of readings can be.
-- Assumes nothing.
use mathlib.Core.Path.{◌≡◌, refl, subst}
use mathlib.Core.Bool.{false, ◌||◌}
use mathlib.Core.Option.{Option, none, some}
use mathlib.Core.List.{List, [], ◌∷◌}
use Prim.Native.Nat.{ℕ, ◌+◌, ◌*◌, ◌≤◌, ◌<◌}
use native.Mathlib.Nat.{not-suc-le-zero}
use native.Mathlib.Omega.{arith}
use lib.Dec.{ltb}
use lib.IntN.{ℤ, ◌+ℤ◌}
use lib.ListN.{length}
use borrow.Author.Tests.{le-ltb}
use Rattle.std.proofs.lemmas.Int.{ints}
use Rattle.ints.specs.Sizes.{Small}
use Rattle.ints.proofs.Sizes.{small-more, small_add, small-reading}
use Rattle.window.specs.declared.query.Query.{Query}
use Rattle.window.specs.Lists.{any, Each}
use Rattle.window.specs.Orders.{sum}
use Rattle.window.specs.Queries.{Limits, length_limit, query_limit}
use Rattle.window.specs.Partials.{Partial}
use Rattle.window.specs.Refusals.{applying, field_checks, is_registered, broken_record, shared_number, damaged}
use Rattle.window.specs.Calls.{Call, IsReading}
use Rattle.window.specs.Model.{State, count, reached}
use Rattle.window.specs.Invariant.{Ordered, Tracked, Distinct, Shape, Invariant, Bounded}
use Rattle.window.proofs.Lists.{or_neither, each_map}
use Rattle.window.proofs.Refusals.{limits-any}
use Rattle.window.proofs.Tiling.{ordered-before, ordered-count}
use Rattle.window.proofs.Tracking.{shape-ordered, open_within_slide}
use Rattle.window.proofs.Preserved.{reached-invariant}
use Rattle.window.proofs.Windows.{live-few}

-- ---- partials

module _ (s : State) (i : Invariant s) where
  ordered : Ordered 0 s.closed (count s)
  ordered = shape-ordered s.open_start (count s) s.queries s.closed i.shape

  open_shape : (a : ℕ) → s.open_start ≡ some a → Shape (some a) (count s) s.queries s.closed
  open_shape a e = subst (λ (o : Option ℕ). Shape o (count s) s.queries s.closed) e i.shape

  closed-before : Each (λ (p : Partial). p.start < count s) s.closed
  closed-before =
      each_map (λ (p : Partial). (p.start < p.stop) × (p.stop ≤ count s)) (λ (p : Partial). p.start < count s) (λ p k. omega arith) s.closed
      (ordered-before 0 s.closed (count s) ordered)

  open_within_slides_lem : (a : ℕ) → s.open_start ≡ some a → Each (λ (q : Query). count s < a + q.slide) s.queries
  open_within_slides_lem a e = go s.queries i.within_limits.limits (open_shape a e).3
    where
      go : (qs : List Query) → Each Limits qs → Each (Tracked (count s) s.closed a) qs → Each (λ (q : Query). count s < a + q.slide) qs
      go [] g t = tt
      go (q ∷ qs) g t = (open_within_slide (count s) s.closed a q g.0 (open_shape a e).0 t.0, go qs g.1 t.1)

  open_short_lem : (a : ℕ) → s.open_start ≡ some a → count s < a + length_limit
  open_short_lem a e = go s.queries (open_shape a e).2 i.within_limits.limits (open_within_slides_lem a e)
    where
      go : (qs : List Query) → 1 ≤ length qs → Each Limits qs → Each (λ (q : Query). count s < a + q.slide) qs → count s < a + length_limit
      go [] l g h = absurd (not-suc-le-zero l)
      go (q ∷ qs) l g h = omega (arith, h.0, g.0.slide_high)

  origins_early_lem : Each (λ (q : Query). q.origin ≤ count s) s.queries
  origins_early_lem = go s.open_start i.shape
    where
      go : (o : Option ℕ) → Shape o (count s) s.queries s.closed → Each (λ (q : Query). q.origin ≤ count s) s.queries
      go none h = rw h.0 tt
      go (some a) h = each_map (Tracked (count s) s.closed a) (λ (q : Query). q.origin ≤ count s) (λ q t. omega (arith, t.early, h.0)) s.queries h.3

-- ---- a state of the model is never taken for damaged

not-broken : (n : ℕ) (qs : List Query) → Each Limits qs → Each (λ (q : Query). q.origin ≤ n) qs → any (broken_record n) qs ≡ false
not-broken n [] g h = refl
not-broken n (q ∷ qs) g h =
    or_neither (broken_record n q) (any (broken_record n) qs)
    (or_neither (any applying (field_checks q.number q.kind q.range q.slide)) (ltb n q.origin)
    (limits-any q g.0)
    (le-ltb n q.origin h.0))
    (not-broken n qs g.1 h.1)

not_shared : (qs : List Query) → Distinct qs → shared_number qs ≡ false
not_shared [] d = refl
not_shared (q ∷ qs) d = or_neither (is_registered q.number qs) (shared_number qs) d.0 (not_shared qs d.1)

undamaged : (s : State) → Invariant s → damaged (count s) (length s.queries) s.queries ≡ false
unfolding damaged
undamaged s i =
    let qs : List Query = s.queries in
    or_neither (ltb query_limit (length qs)) (any (broken_record (count s)) qs || shared_number qs)
    (le-ltb query_limit (length qs) i.within_limits.few)
    (or_neither (any (broken_record (count s)) qs) (shared_number qs)
    (not-broken (count s) qs i.within_limits.limits (origins_early_lem s i))
    (not_shared qs i.within_limits.distinct))

-- ---- all of them, of a state that has the invariant; and so after every list of calls on a fresh model

pub bounded : (s : State) → Invariant s → Bounded s
bounded s i =
    record {
      closed_count = omega (arith, ordered-count 0 s.closed (count s) (ordered s i));
      live_few = live-few s i;
      open_within_slides = open_within_slides_lem s i;
      open_short = open_short_lem s i;
      closed_short = i.within_limits.short;
      closed_before = closed-before s i;
      origins_early = origins_early_lem s i;
      not_damaged = undamaged s i;
    }

pub reached_bounded : (cs : List Call) → Bounded (reached cs)
reached_bounded cs = bounded (reached cs) (reached-invariant cs)

-- ---- sums

-- the sum of k readings is at most k * 2^31 in size
pub sum_bound : (xs : List ℤ) → Each IsReading xs → Small (length xs * 2147483648) (sum xs)
sum_bound [] h = record { above = omega (arith, ints); below = omega (arith, ints) }
sum_bound (x ∷ []) h = small-more 2147483648 _ x (omega arith) (small-reading x h.0)
sum_bound (x ∷ y ∷ ys) h =
    small-more _ _ (x +ℤ sum (y ∷ ys)) (omega arith)
    (small_add 2147483648 (length (y ∷ ys) * 2147483648) x (sum (y ∷ ys)) (small-reading x h.0) (sum_bound (y ∷ ys) h.1))
