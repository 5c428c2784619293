-- The laws of a list made of a function of the numbers from i on: its length, its elements, its two ends, its parts,
-- what holds of each element, and tests of them. A part of a list is such a list.
-- Assumes nothing.
use Rattle.std.proofs.Common.{◌≡◌, ℕ, zero, suc, ◌+◌, ◌-◌, ◌<◌, ◌≤◌, Bool, true, false, List, [], ◌∷◌, ◌++◌, length, get_or, take, drop, replicate, sym, refl, ap, ◌∙◌, subst, ap₂, add-one, arith, drop-cons}
use lib.ListN.{get_or-replicate}
use Rattle.window.specs.Lists.{any, Each}
use Rattle.window.proofs.Lists.{or_left, or_right, not_left, not_right}
use Rattle.registry.specs.Records.{tabulate}

module _ {A : Type 0} where
  -- functions that agree on these numbers make the same list
  pub tabulate_cong : (f g : ℕ → A) (i k : ℕ) → ((j : ℕ) → i ≤ j → j < i + k → f j ≡ g j) → tabulate f i k ≡ tabulate g i k
  tabulate_cong f g i zero h = refl
  tabulate_cong f g i (suc k) h = ap₂ ◌∷◌ (h i (omega arith) (omega arith)) (tabulate_cong f g (i + 1) k (λ j l m. h j (omega arith) (omega arith)))

  pub length-tabulate : (f : ℕ → A) (i k : ℕ) → length (tabulate f i k) ≡ k
  length-tabulate f i zero = refl
  length-tabulate f i (suc k) = ap suc (length-tabulate f (i + 1) k)

  -- the element at place j
  pub get_d_tabulate : (f : ℕ → A) (i k j : ℕ) (d : A) → j < k → get_or (tabulate f i k) j d ≡ f (i + j)
  get_d_tabulate f i zero j d l = absurd (omega arith)
  get_d_tabulate f i (suc k) zero d l = ap f same
    where
      same : i ≡ i + 0
      same = omega arith
  get_d_tabulate f i (suc k) (suc j) d l = get_d_tabulate f (i + 1) k j d (omega arith) ∙ ap f same
    where
      same : i + 1 + j ≡ i + suc j
      same = omega arith

  -- without the first j
  pub drop-tabulate : (f : ℕ → A) (i k j : ℕ) → drop j (tabulate f i k) ≡ tabulate f (i + j) (k - j)
  drop-tabulate f i k zero = ap₂ (tabulate f) same whole
    where
      same : i ≡ i + 0
      same = omega arith

      whole : k ≡ k - 0
      whole = omega arith
  drop-tabulate f i zero (suc j) = ap (tabulate f (i + suc j)) none
    where
      none : 0 ≡ 0 - suc j
      none = omega arith
  drop-tabulate f i (suc k) (suc j) = drop-tabulate f (i + 1) k j ∙ ap₂ (tabulate f) same less
    where
      same : i + 1 + j ≡ i + suc j
      same = omega arith

      less : k - j ≡ suc k - suc j
      less = omega arith

  -- in two parts
  pub tabulate_split : (f : ℕ → A) (i j k : ℕ) → tabulate f i (j + k) ≡ tabulate f i j ++ tabulate f (i + j) k
  tabulate_split f i zero k = ap₂ (tabulate f) same none
    where
      same : i ≡ i + 0
      same = omega arith

      none : 0 + k ≡ k
      none = omega arith
  tabulate_split f i (suc j) k = ap (tabulate f i) more ∙ ap (λ (r : List A). f i ∷ r) (tabulate_split f (i + 1) j k ∙ ap (λ (n : ℕ). tabulate f (i + 1) j ++ tabulate f n k) same)
    where
      more : suc j + k ≡ suc (j + k)
      more = omega arith

      same : i + 1 + j ≡ i + suc j
      same = omega arith

  -- one more at the end
  pub tabulate-more : (f : ℕ → A) (i k : ℕ) → tabulate f i (k + 1) ≡ tabulate f i k ++ (f (i + k) ∷ [])
  tabulate-more f i k = tabulate_split f i k 1

  -- from i up to, not including, k: the first, and the rest
  pub tabulate-next : (f : ℕ → A) (i k : ℕ) → i < k → tabulate f i (k - i) ≡ f i ∷ tabulate f (i + 1) (k - (i + 1))
  tabulate-next f i k l = ap (tabulate f i) more
    where
      more : k - i ≡ suc (k - (i + 1))
      more = omega arith

  -- and none where i is the end
  pub tabulate-ended : (f : ℕ → A) (i k : ℕ) → k ≤ i → tabulate f i (k - i) ≡ []
  tabulate-ended f i k l = ap (tabulate f i) none
    where
      none : k - i ≡ 0
      none = omega arith

  -- ---- what holds of each element

  pub each_tabulate : (P : A → Type 0) (f : ℕ → A) (i k : ℕ) → ((j : ℕ) → i ≤ j → j < i + k → P (f j)) → Each P (tabulate f i k)
  each_tabulate P f i zero h = tt
  each_tabulate P f i (suc k) h = (h i (omega arith) (omega arith), each_tabulate P f (i + 1) k (λ j l m. h j (omega arith) (omega arith)))

  -- it holds of the one at place j
  pub tabulated_at : (P : A → Type 0) (f : ℕ → A) (i k j : ℕ) → j < k → Each P (tabulate f i k) → P (f (i + j))
  tabulated_at P f i zero j l h = absurd (omega arith)
  tabulated_at P f i (suc k) zero l h = subst (λ (n : ℕ). P (f n)) same h.0
    where
      same : i ≡ i + 0
      same = omega arith
  tabulated_at P f i (suc k) (suc j) l h = subst (λ (n : ℕ). P (f n)) same (tabulated_at P f (i + 1) k j (omega arith) h.1)
    where
      same : i + 1 + j ≡ i + suc j
      same = omega arith

  -- ---- one value alone

  pub tabulate-same : (f : ℕ → A) (a : A) (i k : ℕ) → ((j : ℕ) → i ≤ j → j < i + k → f j ≡ a) → tabulate f i k ≡ replicate k a
  tabulate-same f a i zero h = refl
  tabulate-same f a i (suc k) h = ap₂ ◌∷◌ (h i (omega arith) (omega arith)) (tabulate-same f a (i + 1) k (λ j l m. h j (omega arith) (omega arith)))

  pub same_tabulated : (f : ℕ → A) (a : A) (i k j : ℕ) → j < k → tabulate f i k ≡ replicate k a → f (i + j) ≡ a
  same_tabulated f a i k j l e =
      sym (get_d_tabulate f i k j a l) ∙ ap (λ (r : List A). get_or r j a) e ∙ get_or-replicate k j a a l

  -- functions that make the same list agree
  pub tabulated_same : (f g : ℕ → A) (i k j : ℕ) → j < k → tabulate f i k ≡ tabulate g i k → f (i + j) ≡ g (i + j)
  tabulated_same f g i k j l e =
      sym (get_d_tabulate f i k j (g i) l) ∙ ap (λ (r : List A). get_or r j (g i)) e ∙ get_d_tabulate g i k j (g i) l

  -- ---- a part of a list

  pub part_tabulate : (l : List A) (d : A) (i k : ℕ) → i + k ≤ length l → take k (drop i l) ≡ tabulate (λ (j : ℕ). get_or l j d) i k
  part_tabulate l d i zero w = refl
  part_tabulate l d i (suc k) w =
      let inside : i < length l = omega arith in
      ap (take (suc k)) (drop-cons l i d inside)
      ∙ ap (λ (r : List A). get_or l i d ∷ r) (ap (λ (n : ℕ). take k (drop n l)) (sym (add-one i)) ∙ part_tabulate l d (i + 1) k (omega arith))

  -- ---- a test

  -- some element passes where the one at place j does
  pub any-tabulate : (p : A → Bool) (f : ℕ → A) (i k j : ℕ) → j < k → p (f (i + j)) ≡ true → any p (tabulate f i k) ≡ true
  any-tabulate p f i zero j l e = absurd (omega arith)
  any-tabulate p f i (suc k) zero l e = or_left (p (f i)) (any p (tabulate f (i + 1) k)) (ap (λ (n : ℕ). p (f n)) same ∙ e)
    where
      same : i ≡ i + 0
      same = omega arith
  any-tabulate p f i (suc k) (suc j) l e =
      or_right (p (f i)) (any p (tabulate f (i + 1) k)) (any-tabulate p f (i + 1) k j (omega arith) (ap (λ (n : ℕ). p (f n)) same ∙ e))
    where
      same : i + 1 + j ≡ i + suc j
      same = omega arith

  -- the one at place j fails where none passes
  pub none_tabulated : (p : A → Bool) (f : ℕ → A) (i k j : ℕ) → j < k → any p (tabulate f i k) ≡ false → p (f (i + j)) ≡ false
  none_tabulated p f i zero j l e = absurd (omega arith)
  none_tabulated p f i (suc k) zero l e = ap (λ (n : ℕ). p (f n)) same ∙ not_left (p (f i)) (any p (tabulate f (i + 1) k)) e
    where
      same : i + 0 ≡ i
      same = omega arith
  none_tabulated p f i (suc k) (suc j) l e =
      ap (λ (n : ℕ). p (f n)) same ∙ none_tabulated p f (i + 1) k j (omega arith) (not_right (p (f i)) (any p (tabulate f (i + 1) k)) e)
    where
      same : i + suc j ≡ i + 1 + j
      same = omega arith
