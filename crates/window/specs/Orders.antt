-- Aggregates: the elements of a list joined by one operation. Sums, maxima and minima are its instances, the last two
-- by one order and its converse.
-- Assumes nothing.
use Rattle.std.specs.Prelude.{◌≡◌, Bool, true, false, cond, List, [], ◌∷◌, ℤ, pos, ◌+ℤ◌}
use Rattle.std.specs.Int.Signed.{le_z}

module _ {A : Type 0} (op : A → A → A) (none : A) where
  -- the elements joined by `op`, and `none` for the empty list. Of a list that has an element, nothing else goes into
  -- it
  abbrev pub aggregate : List A → A
  aggregate [] = none
  aggregate (x ∷ []) = x
  aggregate (x ∷ y ∷ ys) = op x (aggregate (y ∷ ys))

-- a total order: `below a b` says that a is at most b. Only laws use it. It does not ask that two which are below each
-- other are equal, so that an order of entries by one of several fields is one too
pub record Order {A : Type 0} (below : A → A → Bool) : Type 0 where
  pub total : (a b : A) → below a b ≡ false → below b a ≡ true
  pub trans : (a b c : A) → below a b ≡ true → below b c ≡ true → below a c ≡ true

-- the order turned round
abbrev pub converse : {A : Type 0} → (A → A → Bool) → A → A → Bool
converse below a b = below b a

-- the greater of two by the order; the later of two equal ones
abbrev pub greater : {A : Type 0} → (A → A → Bool) → A → A → A
greater below a b = cond (below a b) b a

-- the order of maxima is `le_z`, "at most"; that of minima is its converse, "at least"
abbrev pub ge_z : ℤ → ℤ → Bool
ge_z = converse le_z

-- the sum; 0 of the empty list
abbrev pub sum : List ℤ → ℤ
sum = aggregate ◌+ℤ◌ (pos 0)

-- the greatest by the order: the maximum by `le_z`, the minimum by `ge_z`
abbrev pub extreme : (ℤ → ℤ → Bool) → List ℤ → ℤ
extreme below = aggregate (greater below) (pos 0)

-- the maximum and the minimum. Neither starts from 0: the 0 of `extreme` stands for the empty list alone, and no window
-- that is due is empty
abbrev pub maximum : List ℤ → ℤ
maximum = extreme le_z

abbrev pub minimum : List ℤ → ℤ
minimum = extreme ge_z
