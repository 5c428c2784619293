-- The laws of the standing entries (a monotonic deque), for every order: what a closing does to them, that eviction at
-- the front changes nothing else, that the first is the greatest of all (W4), and what a closing costs.
-- Assumes nothing.
use mathlib.Core.Path.{◌≡◌, refl, sym, ap, ◌∙◌}
use mathlib.Core.Bool.{Bool, true, false, not, ◌&&◌, ◌||◌, cond, and-true}
use mathlib.Core.List.{List, [], ◌∷◌, ◌++◌, map}
use Prim.Native.Nat.{ℕ, suc, ◌+◌, ◌≤◌, zero-le, suc-le-suc}
use native.Mathlib.Omega.{arith}
use lib.ListN.{length, length-append}
use borrow.Author.Tests.{leb-true, le-leb}
use Rattle.window.specs.Lists.{filter, all, Each}
use Rattle.window.specs.Orders.{Order, aggregate, greater}
use Rattle.window.specs.Partials.{Entry, live, entries_from, value_of}
use Rattle.window.specs.Standing.{exceeds, at_most, standing, front_of, evicted, one_if_any, comparisons}
use Rattle.window.specs.Invariant.{Sorted}
use Rattle.window.proofs.Lists.{each_map, all_snoc, filter_every, length-filter, length-parts, filter_comm}
use Rattle.window.proofs.Orders.{below-greater}

-- ---- eviction

-- after an entry that starts at h or later, all do
later_from : {A : Type 0} (h : ℕ) (x : Entry A) (xs : List (Entry A)) → live h x.start ≡ true → Each (λ (y : Entry A). x.start ≤ y.start) xs → entries_from h xs ≡ xs
later_from {A} h x xs e s =
    let le : h ≤ x.start = leb-true h x.start e in
    filter_every (λ (y : Entry A). live h y.start) xs
    (each_map (λ (y : Entry A). x.start ≤ y.start) (λ (y : Entry A). live h y.start ≡ true) (λ y k. le-leb h y.start (omega arith)) xs s)

-- evicting from the front leaves all entries that start at h or later
pub evicted_from : {A : Type 0} (h : ℕ) (xs : List (Entry A)) → Sorted xs → evicted h xs ≡ entries_from h xs
evicted_from h [] s = refl
evicted_from {A} h (x ∷ xs) s = go (live h x.start) refl (evicted_from h xs s.1)
  where
    go : (b : Bool) → live h x.start ≡ b → evicted h xs ≡ entries_from h xs → cond b (x ∷ xs) (evicted h xs) ≡ cond b (x ∷ entries_from h xs) (entries_from h xs)
    go true e ih = ap (λ (l : List (Entry A)). x ∷ l) (sym (later_from h x xs e s.0))
    go false e ih = ih

-- ---- closing

module _ {A : Type 0} (below : A → A → Bool) where
  -- a closing: the standing entries that are at most the new one go, and the new one joins the end
  pub standing_snoc : (xs : List (Entry A)) (y : Entry A) → standing below (xs ++ (y ∷ [])) ≡ filter (λ (x : Entry A). exceeds below x y) (standing below xs) ++ (y ∷ [])
  standing_snoc [] y = refl
  standing_snoc (x ∷ xs) y = rw (all_snoc (exceeds below x) xs y) (go (all (exceeds below x) xs) (exceeds below x y) refl (standing_snoc xs y))
    where
      p : Entry A → Bool
      p = λ (z : Entry A). exceeds below z y

      go : (b c : Bool) → exceeds below x y ≡ c → standing below (xs ++ (y ∷ [])) ≡ filter p (standing below xs) ++ (y ∷ [])
          → cond (b && c) (x ∷ standing below (xs ++ (y ∷ []))) (standing below (xs ++ (y ∷ []))) ≡ filter p (cond b (x ∷ standing below xs) (standing below xs)) ++ (y ∷ [])
      go true true e ih = rw (e, ih)
      go true false e ih = rw (e, ih)
      go false c e ih = ih

  -- ---- what stands

  -- what holds of every entry holds of those that stand
  pub each_standing : (P : Entry A → Type 0) (xs : List (Entry A)) → Each P xs → Each P (standing below xs)
  each_standing P [] h = tt
  each_standing P (x ∷ xs) h = go (all (exceeds below x) xs) (each_standing P xs h.1)
    where
      go : (b : Bool) → Each P (standing below xs) → Each P (cond b (x ∷ standing below xs) (standing below xs))
      go true k = (h.0, k)
      go false k = k

  -- no more stand than there are
  pub standing_le : (xs : List (Entry A)) → length (standing below xs) ≤ length xs
  standing_le [] = zero-le
  standing_le (x ∷ xs) = go (all (exceeds below x) xs) (standing_le xs)
    where
      go : (b : Bool) → length (standing below xs) ≤ length xs → length (cond b (x ∷ standing below xs) (standing below xs)) ≤ suc (length xs)
      go true ih = suc-le-suc ih
      go false ih = omega arith

  -- where starts never fall, those of the standing entries never do
  pub standing_sorted : (xs : List (Entry A)) → Sorted xs → Sorted (standing below xs)
  standing_sorted [] s = tt
  standing_sorted (x ∷ xs) s = go (all (exceeds below x) xs) (standing_sorted xs s.1)
    where
      go : (b : Bool) → Sorted (standing below xs) → Sorted (cond b (x ∷ standing below xs) (standing below xs))
      go true k = (each_standing (λ (y : Entry A). x.start ≤ y.start) xs s.0, k)
      go false k = k

  -- W4: evicting the entries that start before h, and standing, can be done in either order
  pub standing_from : (h : ℕ) (xs : List (Entry A)) → Sorted xs → standing below (entries_from h xs) ≡ entries_from h (standing below xs)
  standing_from h [] s = refl
  standing_from h (x ∷ xs) s = go (live h x.start) refl (standing_from h xs s.1)
    where
      go : (b : Bool) → live h x.start ≡ b → standing below (entries_from h xs) ≡ entries_from h (standing below xs)
          → standing below (cond b (x ∷ entries_from h xs) (entries_from h xs)) ≡ entries_from h (cond (all (exceeds below x) xs) (x ∷ standing below xs) (standing below xs))
      go true e ih = rw kept (both (all (exceeds below x) xs))
        where
          kept : entries_from h xs ≡ xs
          kept = later_from h x xs e s.0

          both : (b : Bool) → cond b (x ∷ standing below xs) (standing below xs) ≡ entries_from h (cond b (x ∷ standing below xs) (standing below xs))
          both true = rw (e, ← ih, kept)
          both false = rw (← ih, kept)
      go false e ih = ih ∙ both (all (exceeds below x) xs)
        where
          both : (b : Bool) → entries_from h (standing below xs) ≡ entries_from h (cond b (x ∷ standing below xs) (standing below xs))
          both true = rw e
          both false = refl

  -- ---- what a closing costs

  one_if_any_le : (xs : List (Entry A)) → one_if_any xs ≤ 1
  one_if_any_le [] = zero-le
  one_if_any_le (x ∷ xs) = omega arith

  -- the comparisons of a closing and the entries that then stand are together at most two more than those that stood
  pub closing_cost : (h : ℕ) (xs : List (Entry A)) (y : Entry A) → Sorted xs
      → comparisons below (standing below (entries_from h xs)) y + length (standing below (xs ++ (y ∷ []))) ≤ length (standing below xs) + 2
  closing_cost h xs y s = rw (standing_from h xs s, standing_snoc xs y, filter_comm (λ (x : Entry A). at_most below x y) (λ (x : Entry A). live h x.start) (standing below xs))
      (omega (
        arith,
        length-filter (λ (x : Entry A). live h x.start) (filter (λ (x : Entry A). at_most below x y) (standing below xs)),
        length-parts (λ (x : Entry A). at_most below x y) (standing below xs),
        one_if_any_le (filter (λ (x : Entry A). exceeds below x y) (entries_from h (standing below xs))),
        length-append (filter (λ (x : Entry A). exceeds below x y) (standing below xs)) (y ∷ []),
      ))

  pub standing_nonempty : (xs : List (Entry A)) (y : Entry A) → 1 ≤ length (standing below (xs ++ (y ∷ [])))
  standing_nonempty xs y = rw (standing_snoc xs y) (omega (arith, length-append (filter (λ (x : Entry A). exceeds below x y) (standing below xs)) (y ∷ [])))

  -- ---- the first is the greatest

  module _ (order : Order below) (none : A) where
    greatest : List (Entry A) → A
    greatest xs = aggregate (greater below) none (map value_of xs)

    -- x exceeds all exactly where it exceeds the greatest
    all-exceeds : (x y : Entry A) (ys : List (Entry A)) → all (exceeds below x) (y ∷ ys) ≡ not (below x.value (greatest (y ∷ ys)))
    unfolding greatest
    all-exceeds x y [] = and-true (exceeds below x y)
    all-exceeds x y (z ∷ zs) =
        rw (all-exceeds x z zs, below-greater below order x.value y.value (greatest (z ∷ zs)))
        (go (below x.value y.value) (below x.value (greatest (z ∷ zs))))
      where
        go : (b c : Bool) → (not b && not c) ≡ not (b || c)
        go true c = refl
        go false c = refl

    -- W4: the greatest of a nonempty list is the value of its first standing entry
    pub standing_front : (x : Entry A) (xs : List (Entry A)) → front_of none (standing below (x ∷ xs)) ≡ aggregate (greater below) none (map value_of (x ∷ xs))
    unfolding greatest
    standing_front x [] = refl
    standing_front x (y ∷ ys) = rw (all-exceeds x y ys) (go (below x.value (greatest (y ∷ ys))) (standing_front y ys))
      where
        go : (b : Bool) → front_of none (standing below (y ∷ ys)) ≡ greatest (y ∷ ys)
            → front_of none (cond (not b) (x ∷ standing below (y ∷ ys)) (standing below (y ∷ ys))) ≡ cond b (greatest (y ∷ ys)) x.value
        go true ih = ih
        go false ih = refl
