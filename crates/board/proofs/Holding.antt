-- A board stands for a ledger: over a closing, as the horizon rises, and in the values that it gives.
-- Assumes nothing.
use mathlib.Core.Path.{◌≡◌, refl, sym, ap, ◌∙◌, subst}
use mathlib.Core.Bool.{Bool}
use mathlib.Core.List.{List, [], ◌∷◌, ◌++◌, map}
use Prim.Native.Nat.{ℕ, ◌+◌, ◌≤◌, ◌<◌}
use native.Mathlib.Omega.{arith}
use lib.IntN.{ℤ, pos}
use lib.Signed.{le_z}
use lib.ListN.{length, length-append}
use borrow.Author.Tests.{ne_eqb, eq-eqb}
use Rattle.window.specs.Orders.{Order, ge_z, sum, extreme, maximum, minimum}
use Rattle.window.specs.Queries.{sum_kind, maximum_kind}
use Rattle.window.specs.Partials.{Entry, entries_from, value_of}
use Rattle.window.specs.Standing.{standing, front_of, evicted}
use Rattle.window.specs.Invariant.{Sorted}
use Rattle.window.proofs.Orders.{le_z_order, ge_z-order}
use Rattle.window.proofs.Standing.{standing_sorted, standing_front, evicted_from}
use Rattle.deque.specs.declared.extremes.Deque.{Deque}
use Rattle.deque.specs.Rings.{capacity, Fits, appended}
use Rattle.deque.specs.Extremes.{entries_of, trim_comparisons, closed_with}
use Rattle.deque.specs.Sums.{partials_of, FitsSums, InBounds}
use Rattle.board.specs.declared.aggregate.Aggregate.{Aggregate}
use Rattle.board.specs.declared.board.Board.{Board}
use Rattle.board.specs.Aggregates.{sum_of, maximum_of, minimum_of, closed_from, entry_by, entries_by, Rising, Before}
use Rattle.board.specs.Ledgers.{Ledger, close_with, closing_comparisons, by_kind, value_over}
use Rattle.board.specs.Tables.{Tables}
use Rattle.board.specs.Boards.{Within, StandsOn, Holds, HoldsLive, head_value}
use Rattle.board.proofs.Bounds.{amortized_bound, closed-consistent}
use Rattle.board.proofs.Lists.{rising_snoc, rising_from, before_from, from_from, room, rising_sorted}
use Rattle.board.proofs.Closings.{closed-live, held-evicted, closed-entries, standing-evicted, closed-standing, closed_cost}

-- ---- of a sum, a maximum and a minimum the one of a kind

module _ (kind : ℕ) (s x n : ℤ) where
  pub of_sum : kind ≡ sum_kind → s ≡ by_kind kind s x n
  of_sum e = rw (eq-eqb kind sum_kind e)

  pub of_maximum : (kind ≡ sum_kind → ⊥) → kind ≡ maximum_kind → x ≡ by_kind kind s x n
  of_maximum m e = rw (ne_eqb kind sum_kind m, eq-eqb kind maximum_kind e)

  pub of_minimum : (kind ≡ sum_kind → ⊥) → (kind ≡ maximum_kind → ⊥) → n ≡ by_kind kind s x n
  of_minimum m k = rw (ne_eqb kind sum_kind m, ne_eqb kind maximum_kind k)

-- ---- the horizon rises

pub holds_rises : (h h' : ℕ) (l : Ledger) (b : Board) (t : Tables) → h ≤ h' → Holds h l b t → Holds h' l b t
holds_rises h h' l b t le k =
    record {
      closed = k.closed;
      max_total = k.max_total;
      min_total = k.min_total;
      consistent = k.consistent;
      held = k.held;
      held_rising = k.held_rising;
      live = sym (from_from h h' k.held le) ∙ ap (closed_from h') k.live ∙ from_from h h' l.closed le;
      fits = k.fits;
      sums = k.sums;
      bounds = k.bounds;
      maxima = k.maxima;
      minima = k.minima;
    }

-- ---- a closing

-- a deque, on its tables of starts and values, after y closed on the entries es, with m comparisons made before
pub record DequeClosed (below : ℤ → ℤ → Bool) (y : Entry ℤ) (es : List (Entry ℤ)) (m : ℕ) (starts : List ℕ) (values : List ℤ) (d : Deque) : Type 0 where
  pub fits : Fits d.ring
  pub entries : entries_of starts values d.ring ≡ closed_with below y es
  pub cost : d.comparisons ≡ m + trim_comparisons below y es

-- what the closings of the three rings leave once each is evicted, by their views
pub record Closed (a : Aggregate) (h : ℕ) (b : Board) (t : Tables) (b' : Board) (t' : Tables) : Type 0 where
  pub closed : b'.closed ≡ b.closed + 1
  pub fits : FitsSums b'.sums
  pub sums : partials_of t'.starts t'.sums b'.sums ≡ appended (entry_by sum_of a) (evicted h (partials_of t.starts t.sums b.sums))
  pub bounds : InBounds t.sums b.sums → InBounds t'.sums b'.sums
  pub maxima : DequeClosed le_z (entry_by maximum_of a) (evicted h (entries_of t.max_starts t.max_values b.maxima.ring)) b.maxima.comparisons t'.max_starts t'.max_values b'.maxima
  pub minima : DequeClosed ge_z (entry_by minimum_of a) (evicted h (entries_of t.min_starts t.min_values b.minima.ring)) b.minima.comparisons t'.min_starts t'.min_values b'.minima

module _ (below : ℤ → ℤ → Bool) (order : Order below) (f : Aggregate → ℤ) (h : ℕ) (cs held : List Aggregate) (rising : Rising held) (same : closed_from h held ≡ closed_from h cs) (a : Aggregate)
    (starts : List ℕ) (values : List ℤ) (d : Deque) (starts' : List ℕ) (values' : List ℤ) (d' : Deque)
    (stood : StandsOn below (entries_by f held) starts values d) (done : DequeClosed below (entry_by f a) (evicted h (entries_of starts values d.ring)) d.comparisons starts' values' d') where
  -- a deque holds what stands of the live ones and the new one
  deque_stands : length (closed_from h cs) < capacity → StandsOn below (entries_by f (closed_from h cs ++ (a ∷ []))) starts' values' d'
  deque_stands l =
      record { fits = done.fits; entries = done.entries ∙ ap (λ (xs : List (Entry ℤ)). closed_with below (entry_by f a) (evicted h xs)) stood.entries ∙ closed-standing f h cs held rising same below order a l }

  -- and its comparisons grew by those of the ledger
  deque_total : d'.comparisons ≡ d.comparisons + closing_comparisons below f h a cs
  deque_total =
      done.cost
      ∙ ap (λ (xs : List (Entry ℤ)). d.comparisons + trim_comparisons below (entry_by f a) (evicted h xs)) stood.entries
      ∙ ap (λ (k : ℕ). d.comparisons + k) (closed_cost f h cs held rising same below order a)

-- the closing of a is the ledger's
pub closed-holds : (a : Aggregate) (h : ℕ) (b : Board) (t : Tables) (b' : Board) (t' : Tables) → Closed a h b t b' t'
    → (l : Ledger) → Holds h l b t → Before a.start l.closed → a.start < h + capacity → Holds h (close_with h a l) b' t'
closed-holds a h b t b' t' c l k before near =
    let cs : List Aggregate = l.closed in
    let few : length (closed_from h cs) < capacity = room h a.start capacity cs k.consistent.rising before (omega arith) near in
    record {
      closed = c.closed ∙ ap (λ (n : ℕ). n + 1) k.closed ∙ sym (length-append cs (a ∷ []));
      max_total =
          deque_total le_z le_z_order maximum_of h cs k.held k.held_rising k.live a t.max_starts t.max_values b.maxima t'.max_starts t'.max_values b'.maxima k.maxima c.maxima
          ∙ ap (λ (n : ℕ). n + closing_comparisons le_z maximum_of h a cs) k.max_total;
      min_total =
          deque_total ge_z ge_z-order minimum_of h cs k.held k.held_rising k.live a t.min_starts t.min_values b.minima t'.min_starts t'.min_values b'.minima k.minima c.minima
          ∙ ap (λ (n : ℕ). n + closing_comparisons ge_z minimum_of h a cs) k.min_total;
      consistent = closed-consistent h a l k.consistent before;
      held = closed_from h cs ++ (a ∷ []);
      held_rising = rising_snoc (closed_from h cs) a (rising_from h cs k.consistent.rising) (before_from h cs a.start before);
      live = closed-live h cs a;
      fits = c.fits;
      sums =
          c.sums
          ∙ ap (λ (xs : List (Entry ℤ)). appended (entry_by sum_of a) (evicted h xs)) k.sums
          ∙ closed-entries sum_of h cs k.held k.held_rising k.live a few;
      bounds = c.bounds k.bounds;
      maxima = deque_stands le_z le_z_order maximum_of h cs k.held k.held_rising k.live a t.max_starts t.max_values b.maxima t'.max_starts t'.max_values b'.maxima k.maxima c.maxima few;
      minima = deque_stands ge_z ge_z-order minimum_of h cs k.held k.held_rising k.live a t.min_starts t.min_values b.minima t'.min_starts t'.min_values b'.minima k.minima c.minima few;
    }

-- ---- what is live, and what a value is

module _ (h : ℕ) (l : Ledger) (b : Board) (t : Tables) (k : Holds h l b t) where
  -- the starts in the rings never fall
  pub sums_sorted : Sorted (partials_of t.starts t.sums b.sums)
  sums_sorted = subst Sorted (sym k.sums) (rising_sorted sum_of k.held k.held_rising)

  pub deque_sorted : (below : ℤ → ℤ → Bool) (f : Aggregate → ℤ) (starts : List ℕ) (values : List ℤ) (d : Deque) → StandsOn below (entries_by f k.held) starts values d
      → Sorted (entries_of starts values d.ring)
  deque_sorted below f starts values d s = subst Sorted (sym s.entries) (standing_sorted below (entries_by f k.held) (rising_sorted f k.held k.held_rising))

  -- eviction at the horizon leaves exactly what is live
  sums-evicted : evicted h (partials_of t.starts t.sums b.sums) ≡ entries_by sum_of (closed_from h l.closed)
  sums-evicted = ap (evicted h) k.sums ∙ held-evicted sum_of h l.closed k.held k.held_rising k.live

  deque_evicted : (below : ℤ → ℤ → Bool) (f : Aggregate → ℤ) (starts : List ℕ) (values : List ℤ) (d : Deque) → StandsOn below (entries_by f k.held) starts values d
      → evicted h (entries_of starts values d.ring) ≡ standing below (entries_by f (closed_from h l.closed))
  deque_evicted below f starts values d s = ap (evicted h) s.entries ∙ standing-evicted f h l.closed k.held k.held_rising k.live below

  -- so what starts at the horizon or later is what is live
  pub board-live : HoldsLive h l b t
  board-live =
      record {
        sums = sym (evicted_from h (partials_of t.starts t.sums b.sums) sums_sorted) ∙ sums-evicted;
        maxima = deque_live le_z maximum_of t.max_starts t.max_values b.maxima k.maxima;
        minima = deque_live ge_z minimum_of t.min_starts t.min_values b.minima k.minima;
      }
    where
      deque_live : (below : ℤ → ℤ → Bool) (f : Aggregate → ℤ) (starts : List ℕ) (values : List ℤ) (d : Deque) → StandsOn below (entries_by f k.held) starts values d
          → entries_from h (entries_of starts values d.ring) ≡ standing below (entries_by f (closed_from h l.closed))
      deque_live below f starts values d s =
          sym (evicted_from h (entries_of starts values d.ring) (deque_sorted below f starts values d s)) ∙ deque_evicted below f starts values d s

  -- such a board passes check 2
  pub holds-within : Within b
  holds-within =
      record {
        usable = record { sums = k.fits; max_ring = k.maxima.fits; min_ring = k.minima.fits };
        max_total = rw (k.max_total, k.closed) (amortized_bound le_z maximum_of l.max_comparisons l.closed k.consistent.max_amortized);
        min_total = rw (k.min_total, k.closed) (amortized_bound ge_z minimum_of l.min_comparisons l.closed k.consistent.min_amortized);
      }

values_by : (f : Aggregate → ℤ) (cs : List Aggregate) → map value_of (entries_by f cs) ≡ map f cs
values_by f [] = refl
values_by f (c ∷ cs) = ap (λ (xs : List ℤ). f c ∷ xs) (values_by f cs)

module _ (h from : ℕ) (l : Ledger) (b : Board) (t : Tables) (k : Holds h l b t) (le : h ≤ from) where
  later : Holds from l b t
  later = holds_rises h from l b t le k

  -- the sum of the sums from a place on
  pub sum_is : sum (map value_of (evicted from (partials_of t.starts t.sums b.sums))) ≡ sum (map sum_of (closed_from from l.closed))
  sum_is = ap (λ (es : List (Entry ℤ)). sum (map value_of es)) (sums-evicted from l b t later) ∙ ap sum (values_by sum_of (closed_from from l.closed))

  -- the extreme from a place on, by every order
  extreme_is : (below : ℤ → ℤ → Bool) → Order below → (f : Aggregate → ℤ) (es : List (Entry ℤ)) → evicted from es ≡ standing below (entries_by f (closed_from from l.closed))
      → front_of (pos 0) (evicted from es) ≡ extreme below (map f (closed_from from l.closed))
  extreme_is below order f es e = ap (front_of (pos 0)) e ∙ go (closed_from from l.closed)
    where
      go : (cs : List Aggregate) → front_of (pos 0) (standing below (entries_by f cs)) ≡ extreme below (map f cs)
      go [] = refl
      go (c ∷ cs) = standing_front below order (pos 0) (entry_by f c) (entries_by f cs) ∙ ap (extreme below) (values_by f (c ∷ cs))

  -- the maximum and the minimum from a place on
  pub maximum_is : front_of (pos 0) (evicted from (entries_of t.max_starts t.max_values b.maxima.ring)) ≡ maximum (map maximum_of (closed_from from l.closed))
  maximum_is =
      extreme_is le_z le_z_order maximum_of (entries_of t.max_starts t.max_values b.maxima.ring)
      (deque_evicted from l b t later le_z maximum_of t.max_starts t.max_values b.maxima later.maxima)

  pub minimum_is : front_of (pos 0) (evicted from (entries_of t.min_starts t.min_values b.minima.ring)) ≡ minimum (map minimum_of (closed_from from l.closed))
  minimum_is =
      extreme_is ge_z ge_z-order minimum_of (entries_of t.min_starts t.min_values b.minima.ring)
      (deque_evicted from l b t later ge_z minimum_of t.min_starts t.min_values b.minima later.minima)

  -- so the value of each kind
  module _ (kind : ℕ) where
    pub value-sum : kind ≡ sum_kind → sum (map value_of (evicted from (partials_of t.starts t.sums b.sums))) ≡ value_over kind (closed_from from l.closed)
    unfolding value_over
    value-sum e = sum_is ∙ of_sum kind _ _ _ e

    pub value-maximum : (kind ≡ sum_kind → ⊥) → kind ≡ maximum_kind
        → front_of (pos 0) (evicted from (entries_of t.max_starts t.max_values b.maxima.ring)) ≡ value_over kind (closed_from from l.closed)
    unfolding value_over
    value-maximum n e = maximum_is ∙ of_maximum kind _ _ _ n e

    pub value-minimum : (kind ≡ sum_kind → ⊥) → (kind ≡ maximum_kind → ⊥)
        → front_of (pos 0) (evicted from (entries_of t.min_starts t.min_values b.minima.ring)) ≡ value_over kind (closed_from from l.closed)
    unfolding value_over
    value-minimum n m = minimum_is ∙ of_minimum kind _ _ _ n m

    -- and all three at once, as the machine has them
    pub value_heads : {s s₁ x x₁ n n₁ : ℤ} → s₁ ≡ s → x₁ ≡ x → n₁ ≡ n → s ≡ sum (map value_of (evicted from (partials_of t.starts t.sums b.sums)))
        → x ≡ front_of (pos 0) (evicted from (entries_of t.max_starts t.max_values b.maxima.ring))
        → n ≡ front_of (pos 0) (evicted from (entries_of t.min_starts t.min_values b.minima.ring))
        → head_value kind (record { sum = s₁; maximum = x₁; minimum = n₁ }) ≡ value_over kind (closed_from from l.closed)
    unfolding head_value value_over
    value_heads e f g sums maxima minima = rw (e ∙ sums ∙ sum_is, f ∙ maxima ∙ maximum_is, g ∙ minima ∙ minimum_is)
