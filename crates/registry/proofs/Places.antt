-- What a chain over the places of the used records comes to: the same as its definition over the records.
-- Assumes nothing.
use Rattle.std.proofs.Common.{◌≡◌, ℕ, zero, suc, ◌+◌, ◌≤◌, min, Bool, true, false, cond, ◌||◌, Some, None, List, [], ◌∷◌, length, map, sym, refl, ap, ap₂, ◌∙◌, ltb, not, arith}
use Rattle.std.specs.List as Lists
use Rattle.std.specs.List.{range_with_len, list_any, position_or_len, position, fold}
use Rattle.window.specs.declared.query.Query.{Query}
use Rattle.window.specs.Lists.{filter, any, Each}
use Rattle.window.specs.Orders.{aggregate}
use Rattle.window.specs.Queries.{window_start, horizon}
use Rattle.std.proofs.lemmas.List.FromFn.{length-range_with_len}
use Rattle.registry.specs.Records.{tabulate}
use Rattle.registry.proofs.Tabulating.{length-tabulate}

module _ {A : Type 0} (f : ℕ → A) (p : A → Bool) where
  -- a test
  pub any_places : (i k : ℕ) → list_any (λ (j : ℕ). p (f j)) (range_with_len i k) ≡ any p (tabulate f i k)
  any_places i zero = refl
  any_places i (suc k) = ap (λ (b : Bool). p (f i) || b) (any_places (i + 1) k)

  -- the first that passes it
  first_places : (i k : ℕ) → position_or_len (λ (j : ℕ). p (f j)) (range_with_len i k) ≡ position_or_len p (tabulate f i k)
  first_places i zero = refl
  first_places i (suc k) = ap (λ (n : ℕ). cond (not (p (f i))) (1 + n) 0) (first_places (i + 1) k)

  pub position_places : (i k : ℕ) → position (λ (j : ℕ). p (f j)) (range_with_len i k) ≡ position p (tabulate f i k)
  position_places i k = ap₂ (λ (n m : ℕ). cond (ltb n m) (Some n) None) (first_places i k) (length-range_with_len i k ∙ sym (length-tabulate f i k))

  abbrev passing : ℕ → ℕ → List ℕ
  passing i k = Lists.filter (λ (j : ℕ). p (f j)) (range_with_len i k)

  -- how many pass it
  pub count_places : (i k : ℕ) → length (passing i k) ≡ length (filter p (tabulate f i k))
  count_places i zero = refl
  count_places i (suc k) = by_test (p (f i)) (count_places (i + 1) k)
    where
      by_test : (b : Bool) → length (passing (i + 1) k) ≡ length (filter p (tabulate f (i + 1) k))
          → length (cond b (i ∷ passing (i + 1) k) (passing (i + 1) k)) ≡ length (cond b (f i ∷ filter p (tabulate f (i + 1) k)) (filter p (tabulate f (i + 1) k)))
      by_test true e = ap suc e
      by_test false e = e

-- what is taken of each
pub map_places : {A B : Type 0} (f : ℕ → A) (h : A → B) (i k : ℕ) → map (λ (j : ℕ). h (f j)) (range_with_len i k) ≡ map h (tabulate f i k)
map_places f h i zero = refl
map_places {A} {B} f h i (suc k) = ap (λ (r : List B). h (f i) ∷ r) (map_places f h (i + 1) k)

-- ---- the horizon

min_fold : (x y : ℕ) (ys : List ℕ) → fold min (min x y) ys ≡ min x (fold min y ys)
min_fold x y [] = refl
min_fold x y (z ∷ ys) = ap (λ (w : ℕ). fold min w ys) least ∙ min_fold x (min y z) ys
  where
    least : min (min x y) z ≡ min x (min y z)
    least = omega arith

least_of : (x n : ℕ) (xs : List ℕ) → fold min x xs ≡ aggregate min n (x ∷ xs)
least_of x n [] = refl
least_of x n (y ∷ ys) = min_fold x y ys ∙ ap (min x) (least_of y n ys)

-- the least of n and the windows' starts, of which none is above n
pub least_from : (n : ℕ) (qs : List Query) → Each (λ (q : Query). q.origin ≤ n) qs → fold min n (map (window_start n) qs) ≡ horizon n qs
least_from n [] h = refl
least_from n (q ∷ qs) h = ap (λ (w : ℕ). fold min w (map (window_start n) qs)) least ∙ least_of (window_start n q) n (map (window_start n) qs)
  where
    least : min n (window_start n q) ≡ window_start n q
    least = omega (arith, h.0)
