-- What the rings hold over a closing, by views, for every order: the laws that a board's promises rest on.
-- Assumes nothing.
use mathlib.Core.Path.{◌≡◌, sym, ap, ◌∙◌}
use mathlib.Core.Bool.{Bool}
use mathlib.Core.List.{List, [], ◌∷◌, ◌++◌}
use Prim.Native.Nat.{ℕ, ◌-◌, ◌≤◌, ◌<◌}
use native.Mathlib.Nat.{le_refl}
use native.Mathlib.Omega.{arith}
use lib.ListN.{length, length-append, length-map}
use Rattle.window.specs.Orders.{Order}
use Rattle.window.specs.Partials.{Entry, live, entries_from}
use Rattle.window.specs.Standing.{standing, comparisons, evicted}
use Rattle.window.proofs.Lists.{filter-append}
use Rattle.window.proofs.Standing.{evicted_from, standing_from, standing_snoc, standing_sorted, standing_le}
use Rattle.deque.specs.Rings.{capacity, newest, appended}
use Rattle.deque.specs.Extremes.{trimmed, trim_comparisons, closed_with}
use Rattle.deque.proofs.Trimming.{trimmed_le, trimmed-standing, trim_comparisons_lem}
use Rattle.board.specs.declared.aggregate.Aggregate.{Aggregate}
use Rattle.board.specs.Aggregates.{closed_from, entry_by, entries_by, Rising}
use Rattle.board.proofs.Lists.{from_from, entries_from_lem, entries_snoc, rising_sorted}

-- where a list has at most n elements, its newest n are all of it
newest-few : {A : Type 0} (n : ℕ) (xs : List A) → length xs ≤ n → newest n xs ≡ xs
newest-few n xs l = let none : length xs - n ≡ 0 = omega arith in rw none

-- so where it has fewer, one more fits
newest_snoc : {A : Type 0} (n : ℕ) (xs : List A) (y : A) → length xs < n → newest n (xs ++ (y ∷ [])) ≡ xs ++ (y ∷ [])
newest_snoc n xs y l = newest-few n (xs ++ (y ∷ [])) (omega (arith, length-append xs (y ∷ [])))

-- the live ones and the new one, seen from the horizon on
pub closed-live : (h : ℕ) (cs : List Aggregate) (a : Aggregate) → closed_from h (closed_from h cs ++ (a ∷ [])) ≡ closed_from h (cs ++ (a ∷ []))
closed-live h cs a =
    split (closed_from h cs) ∙ ap (λ (l : List Aggregate). l ++ closed_from h (a ∷ [])) (from_from h h cs (le_refl h)) ∙ sym (split cs)
  where
    split : (xs : List Aggregate) → closed_from h (xs ++ (a ∷ [])) ≡ closed_from h xs ++ closed_from h (a ∷ [])
    split xs = filter-append (λ (p : Aggregate). live h p.start) xs (a ∷ [])

-- held are qs where cs are closed, seen from h on
module _ {A : Type 0} (f : Aggregate → A) (h : ℕ) (cs qs : List Aggregate) (rising : Rising qs) (same : closed_from h qs ≡ closed_from h cs) where
  held_from : entries_from h (entries_by f qs) ≡ entries_by f (closed_from h cs)
  held_from = entries_from_lem f h qs ∙ ap (entries_by f) same

  -- eviction leaves those that are live
  pub held-evicted : evicted h (entries_by f qs) ≡ entries_by f (closed_from h cs)
  held-evicted = evicted_from h (entries_by f qs) (rising_sorted f qs rising) ∙ held_from

  -- they and the new one are what is held after its closing
  pub closed-entries : (a : Aggregate) → length (closed_from h cs) < capacity
      → appended (entry_by f a) (evicted h (entries_by f qs)) ≡ entries_by f (closed_from h cs ++ (a ∷ []))
  closed-entries a l =
      rw (held-evicted, newest_snoc capacity (entries_by f (closed_from h cs)) (entry_by f a) (rw (length-map (closed_from h cs) (entry_by f)) l))
      (sym (entries_snoc f (closed_from h cs) a))

  module _ (below : A → A → Bool) where
    -- eviction leaves what stands of the live ones
    pub standing-evicted : evicted h (standing below (entries_by f qs)) ≡ standing below (entries_by f (closed_from h cs))
    standing-evicted =
        evicted_from h (standing below (entries_by f qs)) (standing_sorted below (entries_by f qs) (rising_sorted f qs rising))
        ∙ sym (standing_from below h (entries_by f qs) (rising_sorted f qs rising))
        ∙ ap (standing below) held_from

    module _ (order : Order below) (a : Aggregate) where
      -- what stands of the live ones and the new one is what a deque holds after the closing
      pub closed-standing : length (closed_from h cs) < capacity
          → closed_with below (entry_by f a) (evicted h (standing below (entries_by f qs))) ≡ standing below (entries_by f (closed_from h cs ++ (a ∷ [])))
      closed-standing l =
          let y : Entry A = entry_by f a in
          let es : List (Entry A) = entries_by f (closed_from h cs) in
          let stood : List (Entry A) = standing below es in
          rw (
            standing-evicted,
            newest_snoc capacity (trimmed below y stood) y (omega (arith, trimmed_le below y stood, standing_le below es, length-map (closed_from h cs) (entry_by f))),
            trimmed-standing below order y es,
            entries_snoc f (closed_from h cs) a,
          )
          (sym (standing_snoc below es y))

      -- and its comparisons are those with what stands of the live ones
      pub closed_cost : trim_comparisons below (entry_by f a) (evicted h (standing below (entries_by f qs))) ≡ comparisons below (standing below (entries_by f (closed_from h cs))) (entry_by f a)
      closed_cost = rw standing-evicted (trim_comparisons_lem below order (entry_by f a) (entries_by f (closed_from h cs)))
