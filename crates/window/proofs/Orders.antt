-- The laws of aggregates and of orders. Nothing here speaks of maxima or minima: both are instances.
-- Assumes nothing.
use mathlib.Core.Path.{◌≡◌, refl, sym, ap, ◌∙◌}
use mathlib.Core.Bool.{Bool, true, false, false≢true, ◌||◌, cond}
use mathlib.Core.List.{List, [], ◌∷◌, ◌++◌, map, append-nil}
use Prim.Native.Nat.{◌<◌}
use native.Mathlib.Nat.{le_trans, not-suc-le-zero}
use native.Mathlib.Omega.{arith}
use lib.ListN.{length, length-append}
use lib.IntN.{ℤ, pos, negsuc}
use lib.Signed.{le_z}
use borrow.Author.Tests.{leb-true, leb-false, le-leb}
use Rattle.window.specs.Lists.{joined, Each}
use Rattle.window.specs.Orders.{aggregate, Order, converse, greater, ge_z}

-- ---- the two orders

pub converse-order : {A : Type 0} {below : A → A → Bool} → Order below → Order (converse below)
converse-order o = record { total = λ a b. o.total b a; trans = λ a b c p q. o.trans c b a q p }

le_z_total : (a b : ℤ) → le_z a b ≡ false → le_z b a ≡ true
le_z_total (pos a) (pos b) h = le-leb b a (omega (arith, leb-false a b h))
le_z_total (pos a) (negsuc b) h = refl
le_z_total (negsuc a) (pos b) h = sym h
le_z_total (negsuc a) (negsuc b) h = le-leb a b (omega (arith, leb-false b a h))

le_z_trans : (a b c : ℤ) → le_z a b ≡ true → le_z b c ≡ true → le_z a c ≡ true
le_z_trans (pos a) (pos b) (pos c) p q = le-leb a c (le_trans (leb-true a b p) (leb-true b c q))
le_z_trans (pos a) (pos b) (negsuc c) p q = q
le_z_trans (pos a) (negsuc b) (pos c) p q = cc
le_z_trans (pos a) (negsuc b) (negsuc c) p q = p
le_z_trans (negsuc a) b (pos c) p q = refl
le_z_trans (negsuc a) (pos b) (negsuc c) p q = cc
le_z_trans (negsuc a) (negsuc b) (negsuc c) p q = le-leb c a (le_trans (leb-true c b q) (leb-true b a p))

-- that of maxima, and that of minima
pub le_z_order : Order le_z
le_z_order = record { total = le_z_total; trans = le_z_trans }

pub ge_z-order : Order ge_z
ge_z-order = converse-order le_z_order

-- ---- the greater of two

module _ {A : Type 0} (below : A → A → Bool) (order : Order below) where
  -- p is below the greater of two exactly where it is below one of them
  pub below-greater : (p a b : A) → below p (greater below a b) ≡ (below p a || below p b)
  below-greater p a b = go (below a b) (below p a) (below p b) refl refl refl
    where
      go : (x y z : Bool) → below a b ≡ x → below p a ≡ y → below p b ≡ z → below p (cond x b a) ≡ (y || z)
      go true true z e f g = order.trans p a b f e
      go true false z e f g = g
      go false true z e f g = f
      go false false true e f g = order.trans p b a g (order.total a b e)
      go false false false e f g = f

  -- a > b > c leaves no a ≤ c
  below_no : (a b c : A) → below a b ≡ false → below b c ≡ false → below a c ≡ true → true ≡ false
  below_no a b c e f g = sym (order.trans a c b g (order.total b c f)) ∙ e

  pub greater_assoc : (a b c : A) → greater below (greater below a b) c ≡ greater below a (greater below b c)
  greater_assoc a b c = go (below a b) (below b c) refl refl
    where
      go : (x y : Bool) → below a b ≡ x → below b c ≡ y → greater below (cond x b a) c ≡ greater below a (cond y c b)
      go true true e f = rw (f, order.trans a b c e f)
      go true false e f = rw (f, e)
      go false true e f = refl
      go false false e f = go₂ (below a c) refl
        where
          go₂ : (z : Bool) → below a c ≡ z → greater below a c ≡ greater below a b
          go₂ true g = absurd (false≢true (sym (below_no a b c e f g)))
          go₂ false g = rw (g, e)

-- ---- aggregates by an associative operation

module _ {A : Type 0} (op : A → A → A) (none : A) (assoc : (a b c : A) → op (op a b) c ≡ op a (op b c)) where
  aggregate_cons : (x : A) (xs : List A) (y : A) (ys : List A) → aggregate op none (x ∷ xs ++ (y ∷ ys)) ≡ op (aggregate op none (x ∷ xs)) (aggregate op none (y ∷ ys))
  aggregate_cons x [] y ys = refl
  aggregate_cons x (z ∷ zs) y ys = ap (op x) (aggregate_cons z zs y ys) ∙ sym (assoc x (aggregate op none (z ∷ zs)) (aggregate op none (y ∷ ys)))

  -- of two nonempty lists
  pub aggregate-append : (xs ys : List A) → 0 < length xs → 0 < length ys → aggregate op none (xs ++ ys) ≡ op (aggregate op none xs) (aggregate op none ys)
  aggregate-append [] ys h k = absurd (not-suc-le-zero h)
  aggregate-append (x ∷ xs) [] h k = absurd (not-suc-le-zero k)
  aggregate-append (x ∷ xs) (y ∷ ys) h k = aggregate_cons x xs y ys

  -- of a nonempty list of nonempty lists: the aggregate of their aggregates
  pub aggregate-joined : (xs : List A) (more : List (List A)) → Each (λ (l : List A). 0 < length l) (xs ∷ more)
      → aggregate op none (joined (xs ∷ more)) ≡ aggregate op none (map (aggregate op none) (xs ∷ more))
  aggregate-joined xs [] h = ap (aggregate op none) (append-nil xs)
  aggregate-joined xs (ys ∷ more) h =
      aggregate-append xs (ys ++ joined more) h.0 (omega (arith, length-append ys (joined more), h.1.0))
      ∙ ap (op (aggregate op none xs)) (aggregate-joined ys more h.1)
