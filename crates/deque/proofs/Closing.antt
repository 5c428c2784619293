-- The laws of a monotonic deque as the code goes: the loop over its tail, eviction, its first entry from a place on, and
-- the closing step. They hold of entries of any type with a start: `content` gives the entry at a place of the tables.
-- Assumes nothing.
use Prim.Native.Nat.{ℕ, ◌+◌, ◌-◌, ◌<◌, ◌≤◌, min}
use mathlib.Core.Path.{◌≡◌, refl, sym, ap, ap₂, ◌∙◌}
use mathlib.Core.Bool.{Bool, true, false}
use mathlib.Core.List.{List, [], ◌∷◌, ◌++◌}
use native.Mathlib.Omega.{arith}
use lib.IntN.{ℤ, pos}
use lib.ListN.{length, get_or, set, drop}
use Rattle.std.specs.List.Sorted.{IsNonDecreasing}
use Rattle.window.specs.Partials.{Entry}
use Rattle.window.specs.Standing.{at_most, one_if_any, front_of, evicted}
use Rattle.window.specs.Invariant.{Sorted}
use Rattle.deque.specs.declared.ring.Ring.{Ring}
use Rattle.deque.specs.Rings.{capacity, place, listed, view, entry_with, start_at, starts_of, advanced, with_room, grown, count_before}
use Rattle.deque.specs.Extremes.{entry_at, entries_of, trimmed, trim_comparisons, closed_with}
use Rattle.deque.proofs.Listed.{listed-none, listed_front, listed_more, length-listed, listed-drop}
use Rattle.deque.proofs.Rings.{ring_of, view-advanced, listed-rising, listed-evicted, view_pushed, newest-more}
use Rattle.deque.proofs.Stores.{entry_other, entry-same}
use Rattle.deque.proofs.Trimming.{trimmed_snoc_drop, trimmed_snoc_keep}

-- ---- the loop over the tail

module _ {A : Type 0} (below : A → A → Bool) (y : Entry A) (n : ℕ) (f : ℕ → Entry A) where
  module _ (last : ℕ) (here : n ≡ last + 1) where
    -- the last of n entries is at most y, and goes
    pub trim_step : at_most below (f last) y ≡ true → trimmed below y (listed n f) ≡ trimmed below y (listed last f)
    trim_step e = rw (here, listed_more last f) (trimmed_snoc_drop below y (listed last f) (f last) e)

    -- it is not, and stays with all before it
    pub trim_stop : at_most below (f last) y ≡ false → trimmed below y (listed n f) ≡ listed n f
    trim_stop e = rw (here, listed_more last f) (trimmed_snoc_keep below y (listed last f) (f last) e)

  -- there is none
  pub trim_none : n ≡ 0 → trimmed below y (listed n f) ≡ listed n f
  unfolding trimmed listed
  trim_none e = rw e

one_if_any-length : {A : Type 0} (xs : List A) → one_if_any xs ≡ min 1 (length xs)
one_if_any-length [] = refl
one_if_any-length (x ∷ xs) = omega arith

-- ---- a view, by its starts

module _ {A : Type 0} (content : ℕ → Entry A) (starts : List ℕ) (same : (p : ℕ) → (content p).start ≡ start_at starts p) (r : Ring) where
  -- where its entries are sorted, their starts never fall
  pub sorted_view : Sorted (view content r) → IsNonDecreasing (starts_of starts r)
  sorted_view = listed-rising r.len (λ j. content (place r.head j)) (λ j. start_at starts (place r.head j)) (λ j. same (place r.head j))

  -- as many entries dropped as start before h: those are left that eviction leaves
  dropped_view : (h k : ℕ) → k ≡ count_before h (starts_of starts r) → drop k (view content r) ≡ evicted h (view content r)
  dropped_view = listed-evicted r.len (λ j. content (place r.head j)) (λ j. start_at starts (place r.head j)) (λ j. same (place r.head j))

  -- what evicting leaves
  pub evicted-view : (h : ℕ) (kept : Ring) → kept ≡ advanced (count_before h (starts_of starts r)) r → view content kept ≡ evicted h (view content r)
  evicted-view h kept e = ap (view content) e ∙ view-advanced content (count_before h (starts_of starts r)) r ∙ dropped_view h (count_before h (starts_of starts r)) refl

  -- ---- the first entry from a place on

  module _ (from first : ℕ) (found : first ≡ count_before from (starts_of starts r)) (none : A) where
    found_view : evicted from (view content r) ≡ listed (r.len - first) (λ j. content (place r.head (first + j)))
    found_view = sym (dropped_view from first found) ∙ listed-drop first r.len (λ j. content (place r.head j))

    -- there is one: its value
    pub front_found : first < r.len → (content (place r.head first)).value ≡ front_of none (evicted from (view content r))
    front_found l =
        ap (λ (k : ℕ). (content (place r.head k)).value) whole
        ∙ sym (ap (front_of none) (found_view ∙ listed_front (r.len - first) (λ j. content (place r.head (first + j))) (omega arith)))
      where
        whole : first ≡ first + 0
        whole = omega arith

    -- there is none
    pub front_missing : r.len ≤ first → none ≡ front_of none (evicted from (view content r))
    front_missing l = sym (ap (front_of none) (found_view ∙ listed-none (r.len - first) (λ j. content (place r.head (first + j))) (omega arith)))

-- ---- the closing of y. Of the ring r the loop leaves the first `left`

module _ {A : Type 0} (content : ℕ → Entry A) (r : Ring) (below : A → A → Bool) (y : Entry A) (left : ℕ)
    (trim : view content (ring_of r.head left) ≡ trimmed below y (view content r)) where
  left-length : left ≡ length (trimmed below y (view content r))
  left-length = sym (length-listed left (λ j. content (place r.head j))) ∙ ap length trim

  -- what the comparisons come to
  pub cost_is : (total before : ℕ) → total ≡ before + ((r.len - left) + min 1 left) → total ≡ before + trim_comparisons below y (view content r)
  cost_is total before e = rw (one_if_any-length (trimmed below y (view content r)), ← left-length, length-listed r.len (λ j. content (place r.head j))) e

  -- the view with y after what is left; `after` gives the entries once y is stored
  pub closed-view : (after : ℕ → Entry A) (room : Ring) → room ≡ with_room (ring_of r.head left)
      → ((j : ℕ) → j < room.len → after (place room.head j) ≡ content (place room.head j)) → after (place room.head room.len) ≡ y
      → view after (grown room) ≡ closed_with below y (view content r)
  closed-view after room e others new =
      view_pushed content after y room.head room.len others new
      ∙ ap (λ (es : List (Entry A)). es ++ (y ∷ []))
      (ap (view content) e ∙ view-advanced content (left + 1 - capacity) (ring_of r.head left) ∙ ap₂ drop (ap (λ (k : ℕ). k + 1 - capacity) left-length) trim)
      ∙ sym (newest-more (trimmed below y (view content r)) y)

-- ---- on tables of starts and values

module _ (below : ℤ → ℤ → Bool) (starts : List ℕ) (values : List ℤ) (r : Ring) (s : ℕ) (v : ℤ) (left : ℕ) (few : left ≤ capacity)
    (trim : entries_of starts values (ring_of r.head left) ≡ trimmed below (entry_with s v) (entries_of starts values r)) where
  -- the view after the closing: the new entry is stored at place q
  pub closed-tables : (ring₁ : Ring) (starts₁ : List ℕ) (q : ℕ) (v₁ : ℤ) → capacity ≤ length starts → capacity ≤ length values
      → ring₁ ≡ grown (with_room (ring_of r.head left)) → q ≡ place (with_room (ring_of r.head left)).head (with_room (ring_of r.head left)).len
      → starts₁ ≡ set starts q s → v₁ ≡ v
      → entries_of starts₁ (set values q v₁) ring₁ ≡ closed_with below (entry_with s v) (entries_of starts values r)
  closed-tables ring₁ starts₁ q v₁ long wide er eq es ev =
      rw (er, es, ev)
      (closed-view (entry_at starts values) r below (entry_with s v) left trim (entry_at (set starts q s) (set values q v)) room refl
      (entry_other q room.head room.len eq starts values s v (omega arith)) (entry-same q room.head room.len eq starts values s v long wide))
    where
      room : Ring
      room = with_room (ring_of r.head left)

module _ (starts : List ℕ) (values : List ℤ) (r : Ring) where
  -- what evicting leaves
  pub entries_evicted : (h : ℕ) (kept : Ring) → kept ≡ advanced (count_before h (starts_of starts r)) r → entries_of starts values kept ≡ evicted h (entries_of starts values r)
  entries_evicted h kept e = evicted-view (entry_at starts values) starts (λ p. refl) r h kept e

  module _ (from : ℕ) where
    -- entry `first` was found: its value
    pub first_value : (first : ℕ) → (IsNonDecreasing (starts_of starts r) → first ≡ count_before from (starts_of starts r)) → Sorted (entries_of starts values r)
        → first < r.len → get_or values (place r.head first) (pos 0) ≡ front_of (pos 0) (evicted from (entries_of starts values r))
    first_value first found sorted = front_found (entry_at starts values) starts (λ p. refl) r from first (found (sorted_view (entry_at starts values) starts (λ p. refl) r sorted)) (pos 0)

    -- none was
    pub no_value : (IsNonDecreasing (starts_of starts r) → r.len ≤ count_before from (starts_of starts r)) → Sorted (entries_of starts values r)
        → pos 0 ≡ front_of (pos 0) (evicted from (entries_of starts values r))
    no_value none sorted = front_missing (entry_at starts values) starts (λ p. refl) r from (count_before from (starts_of starts r)) refl (pos 0) (none (sorted_view (entry_at starts values) starts (λ p. refl) r sorted))
