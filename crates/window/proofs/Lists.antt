-- The laws of tests, of `filter`, of `Each` and of aggregates over lists.
-- Assumes nothing.
use mathlib.Core.Path.{◌≡◌, refl, ap}
use Prim.Native.Nat.{ℕ, zero, suc, ◌+◌, ◌≤◌, ◌<◌, zero-le, suc-le-suc}
use native.Mathlib.Omega.{arith}
use mathlib.Core.Bool.{Bool, true, false, not, ◌&&◌, ◌||◌, cond, and-true}
use mathlib.Core.List.{List, [], ◌∷◌, ◌++◌, map}
use lib.Dec.{leb}
use lib.ListN.{length, take, drop}
use borrow.Author.Tests.{leb-true, leb-false}
use Rattle.window.specs.Lists.{filter, all, any, Each}

-- ---- tests

pub and_left : (a b : Bool) → (a && b) ≡ true → a ≡ true
and_left true b h = refl
and_left false b h = h

pub and_right : (a b : Bool) → (a && b) ≡ true → b ≡ true
and_right true b h = h
and_right false b h = cc

pub or_left : (a b : Bool) → a ≡ true → (a || b) ≡ true
or_left a b p = cc

pub or_right : (a b : Bool) → b ≡ true → (a || b) ≡ true
or_right true b p = refl
or_right false b p = p

pub or_neither : (a b : Bool) → a ≡ false → b ≡ false → (a || b) ≡ false
or_neither a b p q = cc

pub not_left : (a b : Bool) → (a || b) ≡ false → a ≡ false
not_left true b h = h
not_left false b h = refl

pub not_right : (a b : Bool) → (a || b) ≡ false → b ≡ false
not_right true b h = cc
not_right false b h = h

-- by cases on m ≤ n
pub le_cases : {X : Type 0} (m n : ℕ) → (m ≤ n → X) → (n < m → X) → X
le_cases {X} m n f g = go (leb m n) refl
  where
    go : (b : Bool) → leb m n ≡ b → X
    go true e = f (leb-true m n e)
    go false e = g (leb-false m n e)

module _ {A : Type 0} where
  -- ---- every element

  pub each_map : (P Q : A → Type 0) → ((x : A) → P x → Q x) → (xs : List A) → Each P xs → Each Q xs
  each_map P Q f [] h = tt
  each_map P Q f (x ∷ xs) h = (f x h.0, each_map P Q f xs h.1)

  pub each_append : (P : A → Type 0) (xs ys : List A) → Each P xs → Each P ys → Each P (xs ++ ys)
  each_append P [] ys h k = k
  each_append P (x ∷ xs) ys h k = (h.0, each_append P xs ys h.1 k)

  pub each_take : (P : A → Type 0) (n : ℕ) (xs : List A) → Each P xs → Each P (take n xs)
  each_take P zero xs h = tt
  each_take P (suc n) [] h = tt
  each_take P (suc n) (x ∷ xs) h = (h.0, each_take P n xs h.1)

  pub each_drop : (P : A → Type 0) (n : ℕ) (xs : List A) → Each P xs → Each P (drop n xs)
  each_drop P zero xs h = h
  each_drop P (suc n) [] h = tt
  each_drop P (suc n) (x ∷ xs) h = each_drop P n xs h.1

  pub each_filter : (P : A → Type 0) (p : A → Bool) (xs : List A) → Each P xs → Each P (filter p xs)
  each_filter P p [] h = tt
  each_filter P p (x ∷ xs) h = go (p x) (each_filter P p xs h.1)
    where
      go : (b : Bool) → Each P (filter p xs) → Each P (cond b (x ∷ filter p xs) (filter p xs))
      go true k = (h.0, k)
      go false k = k

  -- ---- a test of every element

  pub all_each : (p : A → Bool) (xs : List A) → all p xs ≡ true → Each (λ (x : A). p x ≡ true) xs
  all_each p [] h = tt
  all_each p (x ∷ xs) h = (and_left (p x) (all p xs) h, all_each p xs (and_right (p x) (all p xs) h))

  pub each_all : (p : A → Bool) (xs : List A) → Each (λ (x : A). p x ≡ true) xs → all p xs ≡ true
  each_all p [] h = refl
  each_all p (x ∷ xs) h = rw h.0 (each_all p xs h.1)

  pub all_snoc : (p : A → Bool) (xs : List A) (x : A) → all p (xs ++ (x ∷ [])) ≡ (all p xs && p x)
  all_snoc p [] x = and-true (p x)
  all_snoc p (y ∷ ys) x = rw (all_snoc p ys x) (go (p y))
    where
      go : (b : Bool) → (b && (all p ys && p x)) ≡ ((b && all p ys) && p x)
      go true = refl
      go false = refl

  -- ---- filter

  pub filter-append : (p : A → Bool) (xs ys : List A) → filter p (xs ++ ys) ≡ filter p xs ++ filter p ys
  filter-append p [] ys = refl
  filter-append p (x ∷ xs) ys = go (p x) (filter-append p xs ys)
    where
      go : (b : Bool) → filter p (xs ++ ys) ≡ filter p xs ++ filter p ys
          → cond b (x ∷ filter p (xs ++ ys)) (filter p (xs ++ ys)) ≡ cond b (x ∷ filter p xs) (filter p xs) ++ filter p ys
      go true ih = ap (λ (l : List A). x ∷ l) ih
      go false ih = ih

  pub filter_every : (p : A → Bool) (xs : List A) → Each (λ (x : A). p x ≡ true) xs → filter p xs ≡ xs
  filter_every p [] h = refl
  filter_every p (x ∷ xs) h = rw h.0 (ap (λ (l : List A). x ∷ l) (filter_every p xs h.1))

  pub filter_none : (p : A → Bool) (xs : List A) → Each (λ (x : A). p x ≡ false) xs → filter p xs ≡ []
  filter_none p [] h = refl
  filter_none p (x ∷ xs) h = rw h.0 (filter_none p xs h.1)

  pub length-filter : (p : A → Bool) (xs : List A) → length (filter p xs) ≤ length xs
  length-filter p [] = zero-le
  length-filter p (x ∷ xs) = go (p x) (length-filter p xs)
    where
      go : (b : Bool) → length (filter p xs) ≤ length xs → length (cond b (x ∷ filter p xs) (filter p xs)) ≤ suc (length xs)
      go true ih = suc-le-suc ih
      go false ih = omega arith

  -- the elements that pass and those that fail are all
  pub length-parts : (p : A → Bool) (xs : List A) → length (filter p xs) + length (filter (λ (x : A). not (p x)) xs) ≡ length xs
  length-parts p [] = refl
  length-parts p (x ∷ xs) = go (p x) (length-parts p xs)
    where
      q : A → Bool
      q = λ (y : A). not (p y)

      go : (b : Bool) → length (filter p xs) + length (filter q xs) ≡ length xs
          → length (cond b (x ∷ filter p xs) (filter p xs)) + length (cond (not b) (x ∷ filter q xs) (filter q xs)) ≡ suc (length xs)
      go true ih = omega arith
      go false ih = omega arith

  pub filter_comm : (p q : A → Bool) (xs : List A) → filter p (filter q xs) ≡ filter q (filter p xs)
  filter_comm p q [] = refl
  filter_comm p q (x ∷ xs) = go (p x) (q x) refl refl (filter_comm p q xs)
    where
      go : (b c : Bool) → p x ≡ b → q x ≡ c → filter p (filter q xs) ≡ filter q (filter p xs)
          → filter p (cond c (x ∷ filter q xs) (filter q xs)) ≡ filter q (cond b (x ∷ filter p xs) (filter p xs))
      go true true e f ih = cc
      go true false e f ih = cc
      go false true e f ih = cc
      go false false e f ih = cc

  pub any_append : (p : A → Bool) (xs ys : List A) → any p xs ≡ false → any p ys ≡ false → any p (xs ++ ys) ≡ false
  any_append p [] ys h k = k
  any_append p (x ∷ xs) ys h k = or_neither (p x) (any p (xs ++ ys)) (not_left (p x) (any p xs) h) (any_append p xs ys (not_right (p x) (any p xs) h) k)

  pub any-filter : (p keep : A → Bool) (xs : List A) → any p xs ≡ false → any p (filter keep xs) ≡ false
  any-filter p keep [] h = refl
  any-filter p keep (x ∷ xs) h = go (keep x) (any-filter p keep xs (not_right (p x) (any p xs) h))
    where
      go : (b : Bool) → any p (filter keep xs) ≡ false → any p (cond b (x ∷ filter keep xs) (filter keep xs)) ≡ false
      go true ih = or_neither (p x) (any p (filter keep xs)) (not_left (p x) (any p xs) h) ih
      go false ih = ih

-- `filter` after `map`
pub filter_map : {A B : Type 0} (f : A → B) (p : B → Bool) (xs : List A) → filter p (map f xs) ≡ map f (filter (λ (x : A). p (f x)) xs)
filter_map f p [] = refl
filter_map {A} {B} f p (x ∷ xs) = go (p (f x)) (filter_map f p xs)
  where
    q : A → Bool
    q = λ (y : A). p (f y)

    go : (b : Bool) → filter p (map f xs) ≡ map f (filter q xs)
        → cond b (f x ∷ filter p (map f xs)) (filter p (map f xs)) ≡ map f (cond b (x ∷ filter q xs) (filter q xs))
    go true ih = ap (λ (l : List B). f x ∷ l) ih
    go false ih = ih
