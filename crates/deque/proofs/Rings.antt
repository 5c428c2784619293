-- The laws of a ring's view: places, eviction, the search by start, and one entry more.
-- Assumes nothing.
use Prim.Native.Nat.{ℕ, zero, suc, ◌+◌, ◌-◌, ◌<◌, ◌≤◌}
use mathlib.Core.Path.{◌≡◌, refl, sym, ap, ap₂, ◌∙◌, subst}
use mathlib.Core.Bool.{Bool, true, false, not, cond}
use mathlib.Core.List.{List, [], ◌∷◌, ◌++◌, map}
use native.Mathlib.Omega.{arith}
use lib.ListN.{length, get_or, drop, length-append}
use lib.Seq.{drop-append-le}
use borrow.Author.Tests.{le-leb, lt-leb}
use Rattle.std.specs.List.Sorted.{IsNonDecreasing}
use Rattle.std.proofs.lemmas.List.Sums.{position_or_len_is}
use Rattle.window.specs.Lists.{Each}
use Rattle.window.specs.Partials.{Entry, live}
use Rattle.window.specs.Standing.{evicted}
use Rattle.window.specs.Invariant.{Sorted}
use Rattle.deque.specs.declared.ring.Ring.{Ring}
use Rattle.deque.specs.Rings.{capacity, place, listed, view, start_at, starts_of, advanced, grown, count_before, newest}
use Rattle.deque.proofs.Listed.{listed_cong, listed_more, length-listed, get_or-listed, listed-drop, listed-map}

-- the ring that starts at place h and has n entries
abbrev pub ring_of : ℕ → ℕ → Ring
ring_of h n = record { head = h; len = n }

-- ---- eviction

-- j places on from the place k places on
place-place : (h k j : ℕ) → place (place h k) j ≡ place h (k + j)
place-place h k j = omega arith

-- without the k oldest entries, the view is the list without its first k
pub view-advanced : {A : Type 0} (content : ℕ → A) (k : ℕ) (r : Ring) → view content (advanced k r) ≡ drop k (view content r)
view-advanced content k r =
    listed_cong (r.len - k) (λ j. content (place (place r.head k) j)) (λ j. content (place r.head (k + j))) (λ j l. ap content (place-place r.head k j))
    ∙ sym (listed-drop k r.len (λ j. content (place r.head j)))

-- ---- the first that starts at m or later, of starts by index

-- all before it start before m, and it does not
pub count_is : (m n : ℕ) (f : ℕ → ℕ) (r : ℕ) → r ≤ n → ((k : ℕ) → k < r → f k < m) → (r < n → m ≤ f r) → r ≡ count_before m (listed n f)
count_is m n f r l below above =
    sym (position_or_len_is (live m) (listed n f) r 0 (omega (arith, length-listed n f))
    (λ k h. let i : k < n = omega arith in rw (get_or-listed n f k 0 i) (lt-leb m (f k) (below k h)))
    (λ h. let i : r < n = omega (arith, length-listed n f) in rw (get_or-listed n f r 0 i) (le-leb m (f r) (above i))))

-- s is r without its oldest, so many as start before m: those that went do, and the oldest that is left does not
pub evicted_is : (starts : List ℕ) (m : ℕ) (r s : Ring) → s.len ≤ r.len → s ≡ advanced (r.len - s.len) r
    → ((j : ℕ) → j < r.len - s.len → start_at starts (place r.head j) < m) → (0 < s.len → m ≤ start_at starts s.head) → s ≡ advanced (count_before m (starts_of starts r)) r
evicted_is starts m r s few moved gone left =
    moved
    ∙ ap (λ (k : ℕ). advanced k r)
    (count_is m r.len (λ j. start_at starts (place r.head j)) (r.len - s.len) (omega arith) gone (λ h. rw (← ap (λ (t : Ring). t.head) moved) (left (omega arith))))

-- where starts never fall, the one before it tells of all before it
pub count_between : (m n : ℕ) (f : ℕ → ℕ) (r : ℕ) → r ≤ n → (0 < r → f (r - 1) < m) → (r < n → m ≤ f r) → IsNonDecreasing (listed n f)
    → r ≡ count_before m (listed n f)
count_between m n f r l below above rises = count_is m n f r l before above
  where
    before : (k : ℕ) → k < r → f k < m
    before k h =
        omega (arith, below (omega arith), rises k (r - 1) 0 (omega arith) (omega (arith, length-listed n f)), get_or-listed n f k 0 (omega arith), get_or-listed n f (r - 1) 0 (omega arith))

-- ---- entries with a start, of any type

-- evicting entries one after the other drops as many as start before h
evicted-count : {A : Type 0} (h : ℕ) (es : List (Entry A)) → drop (count_before h (map (λ (e : Entry A). e.start) es)) es ≡ evicted h es
evicted-count h [] = refl
evicted-count {A} h (e ∷ es) = go (live h e.start) (count_before h (map (λ (x : Entry A). x.start) es)) (evicted-count h es)
  where
    next : (k : ℕ) → 1 + k ≡ suc k
    next k = omega arith

    go : (b : Bool) (k : ℕ) → drop k es ≡ evicted h es → drop (cond (not b) (1 + k) 0) (e ∷ es) ≡ cond b (e ∷ es) (evicted h es)
    go true k ih = refl
    go false k ih = rw (next k) ih

-- sorted entries have starts that never fall
sorted_starts : {A : Type 0} (es : List (Entry A)) → Sorted es → IsNonDecreasing (map (λ (e : Entry A). e.start) es)
sorted_starts [] s i j d l k = absurd (omega arith)
sorted_starts {A} (e ∷ es) s zero zero d l k = omega arith
sorted_starts {A} (e ∷ es) s zero (suc j) d l k = go es s.0 j (omega arith)
  where
    go : (xs : List (Entry A)) → Each (λ (x : Entry A). e.start ≤ x.start) xs → (i : ℕ) → i < length (map (λ (x : Entry A). x.start) xs)
        → e.start ≤ get_or (map (λ (x : Entry A). x.start) xs) i d
    go [] h i m = absurd (omega arith)
    go (x ∷ xs) h zero m = h.0
    go (x ∷ xs) h (suc i) m = go xs h.1 i (omega arith)
sorted_starts {A} (e ∷ es) s (suc i) zero d l k = absurd (omega arith)
sorted_starts {A} (e ∷ es) s (suc i) (suc j) d l k = sorted_starts es s.1 i j d (omega arith) (omega arith)

-- the same of a list of an index function, with the starts by index
module _ {A : Type 0} (n : ℕ) (f : ℕ → Entry A) (starts : ℕ → ℕ) (same : (j : ℕ) → (f j).start ≡ starts j) where
  listed-starts : map (λ (e : Entry A). e.start) (listed n f) ≡ listed n starts
  listed-starts = listed-map (λ (e : Entry A). e.start) n f ∙ listed_cong n (λ j. (f j).start) starts (λ j l. same j)

  pub listed-rising : Sorted (listed n f) → IsNonDecreasing (listed n starts)
  listed-rising s = subst IsNonDecreasing listed-starts (sorted_starts (listed n f) s)

  pub listed-evicted : (h k : ℕ) → k ≡ count_before h (listed n starts) → drop k (listed n f) ≡ evicted h (listed n f)
  listed-evicted h k e = ap (λ (i : ℕ). drop i (listed n f)) (e ∙ ap (count_before h) (sym listed-starts)) ∙ evicted-count h (listed n f)

-- ---- one entry more

-- the view of a ring with one entry more, where the other entries are as they were
pub view_pushed : {A : Type 0} (before after : ℕ → A) (e : A) (h n : ℕ) → ((j : ℕ) → j < n → after (place h j) ≡ before (place h j)) → after (place h n) ≡ e
    → view after (grown (ring_of h n)) ≡ view before (ring_of h n) ++ (e ∷ [])
view_pushed {A} before after e h n same new =
    listed_more n (λ j. after (place h j))
    ∙ ap₂ ◌++◌ (listed_cong n (λ j. after (place h j)) (λ j. before (place h j)) same) (ap (λ (x : A). x ∷ []) new)

-- the newest of a list with one more at the end
pub newest-more : {A : Type 0} (xs : List A) (y : A) → newest capacity (xs ++ (y ∷ [])) ≡ drop (length xs + 1 - capacity) xs ++ (y ∷ [])
newest-more xs y = ap (λ (k : ℕ). drop k (xs ++ (y ∷ []))) less ∙ drop-append-le (length xs + 1 - capacity) xs (y ∷ []) (omega arith)
  where
    less : length (xs ++ (y ∷ [])) - 4096 ≡ length xs + 1 - 4096
    less = omega (arith, length-append xs (y ∷ []))
