-- The laws of the partials' sums, which the table holds by laps: eviction, the push of an entry, and the sum of a
-- window read off.
-- Assumes nothing.
use Prim.Native.Nat.{ℕ, zero, suc, ◌+◌, ◌-◌, ◌<◌, ◌≤◌}
use mathlib.Core.Path.{◌≡◌, refl, sym, ap, ap₂, ◌∙◌, subst}
use mathlib.Core.Bool.{Bool, true, not, cond}
use mathlib.Core.List.{List, [], ◌∷◌, ◌++◌, map}
use native.Mathlib.Omega.{arith}
use borrow.Author.Tests.{lt-ltb, le-ltb}
use lib.Dec.{ltb}
use lib.IntN.{ℤ, pos, ◌+ℤ◌, ◌-ℤ◌, +ℤ_idl, +ℤ_idr}
use lib.ListN.{length, get_or, set, drop}
use mir.Syntax.{w64}
use mir.Val.{SFits}
use Rattle.std.proofs.lemmas.Int.{ints}
use Rattle.std.proofs.lemmas.List.Sums.{prefix_len-le-length}
use Rattle.std.specs.List.Sorted.{IsNonDecreasing}
use Rattle.ints.specs.Sizes.{Small}
use Rattle.ints.proofs.Sizes.{small-more, small_add, small_sub, small-fits}
use Rattle.window.specs.Orders.{sum}
use Rattle.window.specs.Partials.{Entry, value_of, live}
use Rattle.window.specs.Standing.{evicted}
use Rattle.window.specs.Invariant.{Sorted}
use Rattle.window.proofs.Lists.{le_cases}
use Rattle.deque.specs.declared.ring.Ring.{Ring}
use Rattle.deque.specs.declared.sums.Sums.{Sums}
use Rattle.deque.specs.Rings.{capacity, place, Fits, listed, entry_with, start_at, starts_of, advanced, with_room, count_before, BeyondKept, appended}
use Rattle.deque.specs.Sums.{sum_at, newest_place, lap_behind, sum_from_place, sum_from, partial_at, partials_of, sum_limit, lap_limit, FitsSums, InBounds}
use Rattle.deque.proofs.Listed.{listed_cong, length-listed, listed-none, listed-drop, listed_more}
use Rattle.deque.proofs.Rings.{listed-rising, listed-evicted, newest-more}
use Rattle.deque.proofs.Stores.{store_other, store_same, store_beyond}

-- ---- the cases of the definitions

-- two entries are equal by their parts
same-entry : {a b : ℕ} {x y : ℤ} → a ≡ b → x ≡ y → entry_with a x ≡ entry_with b y
same-entry e f = ap₂ entry_with e f

-- behind the newest, here: at a greater place than it, and so of the lap before. A place that is not does not belong to
-- that lap
not_behind : (s : Sums) (p : ℕ) → p ≤ newest_place s → lap_behind s p ≡ pos 0
not_behind s p l = rw (le-ltb (newest_place s) p l)

module _ (sums : List ℤ) (s : Sums) (j : ℕ) where
  -- the sum from an entry of the ring on
  sum-within : j < s.ring.len → sum_from sums s j ≡ sum_from_place sums s (place s.ring.head j)
  sum-within l = rw (lt-ltb j s.ring.len l)

  -- the sum from the end on
  sum-at_end : s.ring.len ≤ j → sum_from sums s j ≡ pos 0
  sum-at_end l = rw (le-ltb j s.ring.len l)

-- ---- sizes

module _ (s : Sums) (f : FitsSums s) where
  -- the lap is within the bound of a whole lap
  lap-small : Small lap_limit s.lap
  lap-small = small-more _ lap_limit s.lap (omega arith) f.lap

  -- the lap fits
  pub lap-fits : SFits w64 s.lap
  lap-fits = small-fits lap_limit s.lap (omega arith) lap-small

  -- the lap with the sum of a partial more fits
  pub more-fits : (x : ℤ) → Small sum_limit x → SFits w64 (s.lap +ℤ x)
  more-fits x m = small-fits (lap_limit + sum_limit) (s.lap +ℤ x) (omega arith) (small_add lap_limit sum_limit s.lap x lap-small m)

  -- z is a number of the table, which `InBounds` bounds, or one clamped to that bound
  module _ (z : ℤ) (m : Small lap_limit z) where
    since_small : Small (lap_limit + lap_limit) (s.lap -ℤ z)
    since_small = small_sub lap_limit lap_limit s.lap z lap-small m

    -- the lap without it fits
    pub since_fits : SFits w64 (s.lap -ℤ z)
    since_fits = small-fits (lap_limit + lap_limit) (s.lap -ℤ z) (omega arith) since_small

    -- and so does that with what lies behind
    pub both_fit : (b : ℤ) → Small lap_limit b → SFits w64 (s.lap -ℤ z +ℤ b)
    both_fit b n = small-fits (lap_limit + lap_limit + lap_limit) (s.lap -ℤ z +ℤ b) (omega arith) (small_add (lap_limit + lap_limit) lap_limit (s.lap -ℤ z) b since_small n)

-- ---- eviction

-- a state with another ring; only laws use it
abbrev pub on_ring : Ring → Sums → Sums
on_ring r s = record { ring = r; lap = s.lap; previous = s.previous }

module _ (s : Sums) (k : ℕ) (within : k ≤ s.ring.len) where
  -- the sum from entry j of the ring without its k oldest is the sum from entry k + j
  advanced-sum : (sums : List ℤ) (j : ℕ) → sum_from sums (on_ring (advanced k s.ring) s) j ≡ sum_from sums s (k + j)
  advanced-sum sums j = le_cases s.ring.len (k + j)
      (λ l. sum-at_end sums (on_ring (advanced k s.ring) s) j (omega arith) ∙ sym (sum-at_end sums s (k + j) l))
      (λ l. sum-within sums (on_ring (advanced k s.ring) s) j (omega arith)
      ∙ ap₂ (λ (p q : ℕ). s.lap -ℤ sum_at sums p +ℤ cond (ltb q p) s.previous (pos 0)) (omega arith) (omega arith)
      ∙ sym (sum-within sums s (k + j) l))

-- r is the ring of s without its k oldest entries
module _ (s : Sums) (r : Ring) (k : ℕ) (within : k ≤ s.ring.len) (same : r ≡ advanced k s.ring) where
  -- its partials are those of s without the k oldest
  pub evicted-partials : (starts : List ℕ) (sums : List ℤ) → partials_of starts sums (on_ring r s) ≡ drop k (partials_of starts sums s)
  evicted-partials starts sums =
      rw same
      (listed_cong (s.ring.len - k) (partial_at starts sums (on_ring (advanced k s.ring) s)) (λ j. partial_at starts sums s (k + j)) (λ j l.
      same-entry (ap (start_at starts) (omega arith)) (ap₂ ◌-ℤ◌ (advanced-sum s k within sums j) (advanced-sum s k within sums (suc j) ∙ ap (sum_from sums s) (omega arith))))
      ∙ sym (listed-drop k s.ring.len (partial_at starts sums s)))

  -- the state still fits
  pub evicted-fits : FitsSums s → FitsSums (on_ring r s)
  evicted-fits f = rw same (record {
    ring = record { inside = omega arith; few = omega arith };
    lap = small-more _ _ s.lap (omega arith) f.lap;
    previous = f.previous;
  })

  -- the numbers that the table holds are still within their bound
  pub evicted-bounds : (sums : List ℤ) → InBounds sums s → InBounds sums (on_ring r s)
  evicted-bounds sums b = rw same (λ j l. subst (λ p. Small lap_limit (sum_at sums p)) (omega arith) (b (k + j) (omega arith)))

-- ---- the push of an entry

-- what a push makes of the laps: within a lap the table gets the lap so far, at place 0 a new lap begins. Only laws use
-- it
pub data LapStep (s s₁ : Sums) (q : ℕ) (v x : ℤ) : Type 0 where
  within_lap : (q ≡ 0 → ⊥) → v ≡ s.lap → s₁.lap ≡ s.lap +ℤ x → s₁.previous ≡ s.previous → LapStep s s₁ q v x
  new_lap : q ≡ 0 → v ≡ pos 0 → s₁.lap ≡ x → s₁.previous ≡ s.lap → LapStep s s₁ q v x

-- s₁ is s with one more entry, of value x: it stands at place q, and the table of sums has v there. Only laws use it
pub record Pushed (sums sums₁ : List ℤ) (s s₁ : Sums) (q : ℕ) (v x : ℤ) : Type 0 where
  pub inside : s.ring.head < capacity
  pub room : s.ring.len < capacity
  pub long : capacity ≤ length sums
  pub next : q ≡ place s.ring.head s.ring.len
  pub stored : sums₁ ≡ set sums q v
  pub head : s₁.ring.head ≡ s.ring.head
  pub len : s₁.ring.len ≡ s.ring.len + 1
  pub step : LapStep s s₁ q v x

module _ (h n j : ℕ) (inside : h < capacity) (room : n < capacity) (l : j < n) where
  -- within a lap, the entries behind the new one are those that were behind the newest before it
  test_within : (place h n ≡ 0 → ⊥) → ltb (place h n) (place h j) ≡ ltb (place h (n - 1)) (place h j)
  test_within nz = le_cases (place h j) (place h (n - 1))
      (λ m. le-ltb (place h n) (place h j) (omega arith) ∙ sym (le-ltb (place h (n - 1)) (place h j) m))
      (λ m. lt-ltb (place h n) (place h j) (omega arith) ∙ sym (lt-ltb (place h (n - 1)) (place h j) m))

  -- at the start of a lap all are
  test_new : place h n ≡ 0 → ltb (place h n) (place h j) ≡ true
  test_new z = lt-ltb (place h n) (place h j) (omega arith)

  -- and none was before
  all_in_lap : place h n ≡ 0 → place h j ≤ place h (n - 1)
  all_in_lap z = omega arith

module _ {sums sums₁ : List ℤ} {s s₁ : Sums} {q : ℕ} {v x : ℤ} (c : Pushed sums sums₁ s s₁ q v x) where
  -- after a store at the new place the other entries have what they had
  kept : {A : Type 0} (l l₁ : List A) (a d : A) → l₁ ≡ set l q a → (j : ℕ) → j < s.ring.len → get_or l₁ (place s₁.ring.head j) d ≡ get_or l (place s.ring.head j) d
  kept l l₁ a d e j m = rw (e, c.head) (store_other q s.ring.head s.ring.len c.next l a d c.room j m)

  -- and the new one has what was stored
  put : {A : Type 0} (l l₁ : List A) (a d : A) → l₁ ≡ set l q a → capacity ≤ length l → get_or l₁ (place s₁.ring.head s.ring.len) d ≡ a
  put l l₁ a d e m = rw (e, c.head) (store_same q s.ring.head s.ring.len c.next l a d m)

  -- the newest entry is the new one
  newest-after : newest_place s₁ ≡ place s.ring.head s.ring.len
  newest-after = omega arith

  -- the entries stand where they stood
  place_after : (j : ℕ) → place s₁.ring.head j ≡ place s.ring.head j
  place_after j = omega arith

  -- what lies behind the new entry, seen from a place
  behind_after : (j : ℕ) (b : Bool) (y : ℤ) → ltb (place s.ring.head s.ring.len) (place s.ring.head j) ≡ b → s₁.previous ≡ y
      → lap_behind s₁ (place s₁.ring.head j) ≡ cond b y (pos 0)
  behind_after j b y e f = rw (newest-after, place_after j, e, f)

  -- the lap and what lies behind it grow by x, seen from any entry
  lap-more : (j : ℕ) → j < s.ring.len → LapStep s s₁ q v x
      → s₁.lap +ℤ lap_behind s₁ (place s₁.ring.head j) ≡ s.lap +ℤ lap_behind s (place s.ring.head j) +ℤ x
  lap-more j l (within_lap nz _ e f) =
      omega (arith, ints, behind_after j _ _ (test_within s.ring.head s.ring.len j c.inside c.room l (λ z. nz (c.next ∙ z))) f)
  lap-more j l (new_lap z _ e f) =
      omega (arith, ints, behind_after j _ _ (test_new s.ring.head s.ring.len j c.inside c.room l (sym c.next ∙ z)) f, not_behind s (place s.ring.head j) (all_in_lap s.ring.head s.ring.len j c.inside c.room l (sym c.next ∙ z)))

  -- what the table got at the new place is the new lap without x
  own-lap : LapStep s s₁ q v x → s₁.lap -ℤ v ≡ x
  own-lap (within_lap _ d e _) = omega (arith, ints)
  own-lap (new_lap _ d e _) = omega (arith, ints)

  -- the sum from an entry on grows by x
  sum_more : (j : ℕ) → j < s.ring.len → sum_from sums₁ s₁ j ≡ sum_from sums s j +ℤ x
  sum_more j l =
      sum-within sums₁ s₁ j (omega arith)
      ∙ ap (λ z. s₁.lap -ℤ z +ℤ lap_behind s₁ (place s₁.ring.head j)) (kept sums sums₁ v (pos 0) c.stored j l)
      ∙ omega (arith, ints, lap-more j l c.step)
      ∙ ap (λ z. z +ℤ x) (sym (sum-within sums s j l))

  -- the sum from the new entry on is x
  sum-new : sum_from sums₁ s₁ s.ring.len ≡ x
  sum-new =
      sum-within sums₁ s₁ s.ring.len (omega arith)
      ∙ ap₂ (λ z b. s₁.lap -ℤ z +ℤ b) (put sums sums₁ v (pos 0) c.stored c.long) (not_behind s₁ (place s₁.ring.head s.ring.len) (omega arith))
      ∙ +ℤ_idr (s₁.lap -ℤ v)
      ∙ own-lap c.step

  -- so each entry keeps its value: a difference of two sums that grow alike
  value-kept : (j : ℕ) → j < s.ring.len → sum_from sums₁ s₁ j -ℤ sum_from sums₁ s₁ (suc j) ≡ sum_from sums s j -ℤ sum_from sums s (suc j)
  value-kept j l = ap₂ ◌-ℤ◌ (sum_more j l) next-sum ∙ omega (arith, ints)
    where
      next-sum : sum_from sums₁ s₁ (suc j) ≡ sum_from sums s (suc j) +ℤ x
      next-sum = le_cases s.ring.len (suc j)
          (λ m. ap (sum_from sums₁ s₁) (omega arith) ∙ sum-new ∙ sym (ap (λ z. z +ℤ x) (sum-at_end sums s (suc j) m) ∙ +ℤ_idl x))
          (λ m. sum_more (suc j) m)

  -- the ring holds the partials that it held, and then the new one
  pub pushed_partials : (starts starts₁ : List ℕ) (start : ℕ) → capacity ≤ length starts → starts₁ ≡ set starts q start
      → partials_of starts₁ sums₁ s₁ ≡ partials_of starts sums s ++ (entry_with start x ∷ [])
  pushed_partials starts starts₁ start long e =
      ap (λ n. listed n (partial_at starts₁ sums₁ s₁)) c.len
      ∙ listed_more s.ring.len (partial_at starts₁ sums₁ s₁)
      ∙ ap₂ (λ es e. es ++ (e ∷ []))
      (listed_cong s.ring.len (partial_at starts₁ sums₁ s₁) (partial_at starts sums s) (λ j l. same-entry (kept starts starts₁ start 0 e j l) (value-kept j l)))
      (same-entry (put starts starts₁ start 0 e long)
      (ap₂ ◌-ℤ◌ sum-new (sum-at_end sums₁ s₁ (suc s.ring.len) (omega arith)) ∙ +ℤ_idr x))

  -- a ring that fits, with the lap and the lap before within their bounds
  stepped_fits : Fits s₁.ring → FitsSums s → Small sum_limit x → LapStep s s₁ q v x → FitsSums s₁
  stepped_fits r f m (within_lap nz _ d e) = record {
    ring = r;
    lap = subst (Small _) (sym d) (small-more _ _ (s.lap +ℤ x) (omega arith) (small_add _ sum_limit s.lap x f.lap m));
    previous = subst (Small lap_limit) (sym e) f.previous;
  }
  stepped_fits r f m (new_lap z _ d e) = record {
    ring = r;
    lap = subst (Small _) (sym d) (small-more sum_limit _ x (omega arith) m);
    previous = subst (Small lap_limit) (sym e) (lap-small s f);
  }

  -- the state still fits
  pub pushed_fits : FitsSums s → Small sum_limit x → FitsSums s₁
  pushed_fits f m = stepped_fits (record { inside = omega arith; few = omega arith }) f m c.step

  -- what the table got is within the bound
  stored_small : FitsSums s → LapStep s s₁ q v x → Small lap_limit v
  stored_small f (within_lap _ d _ _) = subst (Small lap_limit) (sym d) (lap-small s f)
  stored_small f (new_lap _ d _ _) = record { above = omega (arith, ints); below = omega (arith, ints) }

  -- the numbers that the table holds are still within their bound
  pub pushed_bounds : FitsSums s → InBounds sums s → InBounds sums₁ s₁
  pushed_bounds f b j l = le_cases s.ring.len j
      (λ m. subst (Small lap_limit) (sym (ap (λ i. sum_at sums₁ (place s₁.ring.head i)) (omega arith) ∙ put sums sums₁ v (pos 0) c.stored c.long)) (stored_small f c.step))
      (λ m. subst (Small lap_limit) (sym (kept sums sums₁ v (pos 0) c.stored j m)) (b j m))

-- ---- a window's sum read off

-- the differences of neighbours add up to the difference of the ends
telescope : (m : ℕ) (f : ℕ → Entry ℤ) (g : ℕ → ℤ) → ((i : ℕ) → (f i).value ≡ g i -ℤ g (suc i)) → sum (map value_of (listed (suc m) f)) ≡ g 0 -ℤ g (suc m)
unfolding listed
telescope zero f g h = h 0
telescope (suc m) f g h = ap₂ ◌+ℤ◌ (h 0) (telescope m (λ i. f (suc i)) (λ i. g (suc i)) (λ i. h (suc i))) ∙ omega (arith, ints)

module _ (starts : List ℕ) (sums : List ℤ) (s : Sums) (j : ℕ) (l : j < s.ring.len) where
  -- the values of the entries from entry j on sum up to the sum from its place on
  pub sum_from-place : sum (map value_of (drop j (partials_of starts sums s))) ≡ sum_from_place sums s (place s.ring.head j)
  sum_from-place =
      ap (λ es. sum (map value_of es)) (listed-drop j s.ring.len (partial_at starts sums s) ∙ ap (λ n. listed n (λ i. partial_at starts sums s (j + i))) (omega arith))
      ∙ telescope (s.ring.len - suc j) (λ i. partial_at starts sums s (j + i)) (λ i. sum_from sums s (j + i)) (λ i. ap (λ k. sum_from sums s (j + i) -ℤ sum_from sums s k) (omega arith))
      ∙ ap₂ ◌-ℤ◌ (ap (sum_from sums s) (omega arith) ∙ sum-within sums s j l) (sum-at_end sums s (j + suc (s.ring.len - suc j)) (omega arith))
      ∙ +ℤ_idr (sum_from_place sums s (place s.ring.head j))

  -- as the code reads it: p is the entry's place, z the number of the table there, and b what lies behind
  pub sum_read : (p : ℕ) (z b : ℤ) → p ≡ place s.ring.head j → z ≡ sum_at sums p → b ≡ lap_behind s p → s.lap -ℤ z +ℤ b ≡ sum (map value_of (drop j (partials_of starts sums s)))
  sum_read p z b here read behind = rw (read, behind, here) (sym sum_from-place)

-- ---- evicting, as the code goes

-- what evicting leaves: as many go as start before h
pub partials-evicted : (starts : List ℕ) (sums : List ℤ) (s : Sums) (h k : ℕ) → k ≡ count_before h (starts_of starts s.ring) → drop k (partials_of starts sums s) ≡ evicted h (partials_of starts sums s)
partials-evicted starts sums s = listed-evicted s.ring.len (partial_at starts sums s) (λ j. start_at starts (place s.ring.head j)) (λ j. refl)

-- sorted partials have starts that never fall
pub partials-rising : (starts : List ℕ) (sums : List ℤ) (s : Sums) → Sorted (partials_of starts sums s) → IsNonDecreasing (starts_of starts s.ring)
partials-rising starts sums s = listed-rising s.ring.len (partial_at starts sums s) (λ j. start_at starts (place s.ring.head j)) (λ j. refl)

-- what evicting ensures: `kept` is the ring after it
module _ (starts : List ℕ) (s : Sums) (h : ℕ) (kept : Ring) (evict : kept ≡ advanced (count_before h (starts_of starts s.ring)) s.ring) where
  count-within : count_before h (starts_of starts s.ring) ≤ s.ring.len
  count-within = omega (arith, prefix_len-le-length (λ t. not (live h t)) (starts_of starts s.ring), length-listed s.ring.len (λ j. start_at starts (place s.ring.head j)))

  pub fits_evicted : FitsSums s → FitsSums (on_ring kept s)
  fits_evicted = evicted-fits s kept _ count-within evict

  pub partials_evicted : (sums : List ℤ) → partials_of starts sums (on_ring kept s) ≡ evicted h (partials_of starts sums s)
  partials_evicted sums = evicted-partials s kept _ count-within evict starts sums ∙ partials-evicted starts sums s h _ refl

  pub bounds_evicted : (sums : List ℤ) → InBounds sums s → InBounds sums (on_ring kept s)
  bounds_evicted = evicted-bounds s kept _ count-within evict

-- ---- the closing step

-- what the closing step ensures of the tables and the state before and after, for a partial that starts at `start` with
-- the sum x
pub record Closes (starts starts₁ : List ℕ) (sums sums₁ : List ℤ) (s s₁ : Sums) (start : ℕ) (x : ℤ) : Type 0 where
  pub fits : FitsSums s₁
  pub entries : partials_of starts₁ sums₁ s₁ ≡ appended (entry_with start x) (partials_of starts sums s)
  pub bounds : InBounds sums s → InBounds sums₁ s₁
  pub beyond : BeyondKept starts starts₁ × BeyondKept sums sums₁

-- `room` is the ring with room for one more
module _ (starts : List ℕ) (s : Sums) (room : Ring) (spare : room ≡ with_room s.ring) (f : FitsSums s) where
  spare_within : s.ring.len + 1 - capacity ≤ s.ring.len
  spare_within = omega arith

  -- the state still fits
  ready_fits : FitsSums (on_ring room s)
  ready_fits = evicted-fits s room (s.ring.len + 1 - capacity) spare_within spare f

  -- with the new entry: all of it where there is room, and else without the oldest
  closed-partials : {sums sums₁ : List ℤ} {s₁ : Sums} {q : ℕ} {v x : ℤ} → Pushed sums sums₁ (on_ring room s) s₁ q v x
      → (starts₁ : List ℕ) (start : ℕ) → capacity ≤ length starts → starts₁ ≡ set starts q start
      → partials_of starts₁ sums₁ s₁ ≡ appended (entry_with start x) (partials_of starts sums s)
  closed-partials {sums} {sums₁} {s₁} {q} {v} {x} c starts₁ start long e =
      pushed_partials c starts starts₁ start long e
      ∙ ap (λ (es : List (Entry ℤ)). es ++ (entry_with start x ∷ []))
      (evicted-partials s room (s.ring.len + 1 - capacity) spare_within spare starts sums
      ∙ ap (λ (n : ℕ). drop (n + 1 - capacity) (partials_of starts sums s)) (sym (length-listed s.ring.len (partial_at starts sums s))))
      ∙ sym (newest-more (partials_of starts sums s) (entry_with start x))

  -- all that the closing step ensures
  pub closed_all : {sums sums₁ : List ℤ} {s₁ : Sums} {q : ℕ} {v x : ℤ} → Small sum_limit x → Pushed sums sums₁ (on_ring room s) s₁ q v x
      → (starts₁ : List ℕ) (start : ℕ) → capacity ≤ length starts → starts₁ ≡ set starts q start → Closes starts starts₁ sums sums₁ s s₁ start x
  closed_all {sums} {sums₁} {s₁} {q} {v} {x} m c starts₁ start long e = record {
    fits = pushed_fits c ready_fits m;
    entries = closed-partials c starts₁ start long e;
    bounds = λ b. pushed_bounds c ready_fits (evicted-bounds s room (s.ring.len + 1 - capacity) spare_within spare sums b);
    beyond = (rw e (store_beyond q room.head room.len c.next starts start), rw c.stored (store_beyond q room.head room.len c.next sums v));
  }

-- from the end on there is nothing to sum
pub sum-none : (starts : List ℕ) (sums : List ℤ) (s : Sums) (j : ℕ) → s.ring.len ≤ j → pos 0 ≡ sum (map value_of (drop j (partials_of starts sums s)))
sum-none starts sums s j l =
    sym (ap (λ (es : List (Entry ℤ)). sum (map value_of es))
    (listed-drop j s.ring.len (partial_at starts sums s) ∙ listed-none (s.ring.len - j) (λ i. partial_at starts sums s (j + i)) (omega arith)))
