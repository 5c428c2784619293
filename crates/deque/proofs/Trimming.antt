-- The laws of dropping from the end of a deque, for every order: what becomes of the last entry, that of a standing
-- list all go that are at most the new one and no other, and what that costs.
-- Assumes nothing.
use mathlib.Core.Path.{◌≡◌, refl, sym, ◌∙◌}
use mathlib.Core.Bool.{Bool, true, false, cond, and-true, and-false}
use mathlib.Core.List.{List, [], ◌∷◌, ◌++◌}
use Prim.Native.Nat.{◌≤◌, suc, zero-le, suc-le-suc}
use native.Mathlib.Omega.{arith}
use lib.ListN.{length}
use borrow.Author.Tests.{not-true}
use Rattle.window.specs.Lists.{filter, all, Each}
use Rattle.window.specs.Orders.{Order}
use Rattle.window.specs.Partials.{Entry}
use Rattle.window.specs.Standing.{at_most, exceeds, standing, comparisons}
use Rattle.window.proofs.Lists.{each_map, all_each, each_all, all_snoc, length-parts}
use Rattle.window.proofs.Standing.{each_standing}
use Rattle.deque.specs.Extremes.{trimmed, trim_comparisons}

module _ {A : Type 0} (below : A → A → Bool) where
  -- ---- dropping from the end

  module _ (y : Entry A) where
    -- the test by which an entry goes
    abbrev goes : Entry A → Bool
    goes x = at_most below x y

    -- an entry at the end that is at most y goes, and dropping goes on before it
    pub trimmed_snoc_drop : (xs : List (Entry A)) (x : Entry A) → at_most below x y ≡ true → trimmed below y (xs ++ (x ∷ [])) ≡ trimmed below y xs
    unfolding trimmed
    trimmed_snoc_drop [] x e = rw e
    trimmed_snoc_drop (z ∷ zs) x e = rw (all_snoc goes zs x, e, and-true (all goes zs), trimmed_snoc_drop zs x e)

    -- an entry at the end that is greater than y stays, and so does all before it
    pub trimmed_snoc_keep : (xs : List (Entry A)) (x : Entry A) → at_most below x y ≡ false → trimmed below y (xs ++ (x ∷ [])) ≡ xs ++ (x ∷ [])
    unfolding trimmed
    trimmed_snoc_keep [] x e = rw e
    trimmed_snoc_keep (z ∷ zs) x e = rw (all_snoc goes zs x, e, and-false (all goes zs), and-false (goes z), trimmed_snoc_keep zs x e)

    -- nothing is added
    pub trimmed_le : (xs : List (Entry A)) → length (trimmed below y xs) ≤ length xs
    unfolding trimmed
    trimmed_le [] = zero-le
    trimmed_le (x ∷ xs) = go (all goes (x ∷ xs)) (trimmed_le xs)
      where
        go : (b : Bool) → length (trimmed below y xs) ≤ length xs → length (cond b [] (x ∷ trimmed below y xs)) ≤ suc (length xs)
        go true ih = zero-le
        go false ih = suc-le-suc ih

    -- nothing is left where every entry is at most y
    trimmed-none : (xs : List (Entry A)) → Each (λ (x : Entry A). goes x ≡ true) xs → trimmed below y xs ≡ []
    unfolding trimmed
    trimmed-none [] h = refl
    trimmed-none (x ∷ xs) h = rw (each_all goes (x ∷ xs) h)

  -- ---- of a standing list

  module _ (order : Order below) (y : Entry A) where
    -- x is at most y and exceeds every later one: so all are at most y
    below-later : (x : Entry A) (xs : List (Entry A)) → at_most below x y ≡ true → all (exceeds below x) xs ≡ true
        → Each (λ (z : Entry A). at_most below z y ≡ true) xs
    below-later x xs e h =
        each_map (λ (z : Entry A). exceeds below x z ≡ true) (λ (z : Entry A). at_most below z y ≡ true)
        (λ z k. order.trans z.value x.value y.value (order.total x.value z.value (not-true (at_most below x z) k)) e) xs
        (all_each (exceeds below x) xs h)

    -- of a standing list, dropping from the end takes away all that are at most y: once an entry exceeds y, all before
    -- it do
    pub trimmed-standing : (xs : List (Entry A)) → trimmed below y (standing below xs) ≡ filter (λ (x : Entry A). exceeds below x y) (standing below xs)
    unfolding trimmed
    trimmed-standing [] = refl
    trimmed-standing (x ∷ xs) = go (all (exceeds below x) xs) (at_most below x y) refl refl (trimmed-standing xs)
      where
        p : Entry A → Bool
        p = λ (z : Entry A). exceeds below z y

        go : (b c : Bool) → all (exceeds below x) xs ≡ b → at_most below x y ≡ c → trimmed below y (standing below xs) ≡ filter p (standing below xs)
            → trimmed below y (cond b (x ∷ standing below xs) (standing below xs)) ≡ filter p (cond b (x ∷ standing below xs) (standing below xs))
        go true true h e ih =
            trimmed-none y (x ∷ standing below xs) (e, gone) ∙ sym (rw e (sym ih ∙ trimmed-none y (standing below xs) gone))
          where
            gone : Each (λ (z : Entry A). at_most below z y ≡ true) (standing below xs)
            gone = each_standing below (λ (z : Entry A). at_most below z y ≡ true) xs (below-later x xs e h)
        go true false h e ih = rw (e, ih)
        go false c h e ih = ih

    -- so it costs the comparisons of the closing of y
    pub trim_comparisons_lem : (xs : List (Entry A)) → trim_comparisons below y (standing below xs) ≡ comparisons below (standing below xs) y
    trim_comparisons_lem xs = rw (trimmed-standing xs) (omega (arith, length-parts (λ (x : Entry A). at_most below x y) (standing below xs)))
