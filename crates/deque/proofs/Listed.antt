-- The laws of a list made of an index function: its ends, its length, and what is left when the first are dropped.
-- Assumes nothing.
use Prim.Native.Nat.{ℕ, zero, suc, ◌+◌, ◌-◌, ◌<◌}
use mathlib.Core.Path.{◌≡◌, refl, ap, ap₂, ◌∙◌}
use mathlib.Core.List.{List, [], ◌∷◌, ◌++◌, map}
use native.Mathlib.Omega.{arith}
use lib.ListN.{length, get_or, drop}
use Rattle.deque.specs.Rings.{listed}

one_more : (n : ℕ) → 0 < n → n ≡ suc (n - 1)
one_more n h = omega arith

module _ {A : Type 0} where
  -- functions that agree on the indices make the same list
  pub listed_cong : (n : ℕ) (f g : ℕ → A) → ((j : ℕ) → j < n → f j ≡ g j) → listed n f ≡ listed n g
  unfolding listed
  listed_cong zero f g h = refl
  listed_cong (suc n) f g h = ap₂ ◌∷◌ (h 0 (omega arith)) (listed_cong n (λ j. f (suc j)) (λ j. g (suc j)) (λ j l. h (suc j) (omega arith)))

  pub length-listed : (n : ℕ) (f : ℕ → A) → length (listed n f) ≡ n
  unfolding listed
  length-listed zero f = refl
  length-listed (suc n) f = ap suc (length-listed n (λ j. f (suc j)))

  -- the element at an index
  pub get_or-listed : (n : ℕ) (f : ℕ → A) (j : ℕ) (d : A) → j < n → get_or (listed n f) j d ≡ f j
  unfolding listed
  get_or-listed zero f j d l = absurd (omega arith)
  get_or-listed (suc n) f zero d l = refl
  get_or-listed (suc n) f (suc j) d l = get_or-listed n (λ i. f (suc i)) j d (omega arith)

  -- the empty list
  pub listed-none : (n : ℕ) (f : ℕ → A) → n ≡ 0 → listed n f ≡ []
  unfolding listed
  listed-none n f e = rw e

  -- the first element, and the rest
  pub listed_front : (n : ℕ) (f : ℕ → A) → 0 < n → listed n f ≡ f 0 ∷ listed (n - 1) (λ j. f (suc j))
  unfolding listed
  listed_front n f h = ap (λ m. listed m f) (one_more n h)

  listed_snoc : (n : ℕ) (f : ℕ → A) → listed (suc n) f ≡ listed n f ++ (f n ∷ [])
  unfolding listed
  listed_snoc zero f = refl
  listed_snoc (suc n) f = ap (λ l. f 0 ∷ l) (listed_snoc n (λ j. f (suc j)))

  -- one more at the end
  pub listed_more : (n : ℕ) (f : ℕ → A) → listed (n + 1) f ≡ listed n f ++ (f n ∷ [])
  listed_more n f = ap (λ m. listed m f) (one n) ∙ listed_snoc n f
    where
      one : (m : ℕ) → m + 1 ≡ suc m
      one m = omega arith

  -- without the first k
  pub listed-drop : (k n : ℕ) (f : ℕ → A) → drop k (listed n f) ≡ listed (n - k) (λ j. f (k + j))
  unfolding listed
  listed-drop zero n f = listed_cong n f (λ j. f (0 + j)) (λ j l. ap f (same j)) ∙ ap (λ m. listed m (λ j. f (0 + j))) (whole n)
    where
      same : (j : ℕ) → j ≡ 0 + j
      same j = omega arith

      whole : (m : ℕ) → m ≡ m - 0
      whole m = omega arith
  listed-drop (suc k) zero f = ap (λ m. listed m (λ j. f (suc k + j))) (none k)
    where
      none : (m : ℕ) → 0 ≡ 0 - suc m
      none m = omega arith
  listed-drop (suc k) (suc n) f =
      listed-drop k n (λ j. f (suc j))
      ∙ listed_cong (n - k) (λ j. f (suc (k + j))) (λ j. f (suc k + j)) (λ j l. ap f (next j))
      ∙ ap (λ m. listed m (λ j. f (suc k + j))) less
    where
      next : (j : ℕ) → suc (k + j) ≡ suc k + j
      next j = omega arith

      less : n - k ≡ suc n - suc k
      less = omega arith

  -- a function of every element
  pub listed-map : {B : Type 0} (g : A → B) (n : ℕ) (f : ℕ → A) → map g (listed n f) ≡ listed n (λ j. g (f j))
  unfolding listed
  listed-map g zero f = refl
  listed-map {B} g (suc n) f = ap (λ (l : List B). g (f 0) ∷ l) (listed-map g n (λ j. f (suc j)))
