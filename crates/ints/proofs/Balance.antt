-- Linear arithmetic of signed numbers by `omega`, which reads natural numbers alone. A signed number z is up z - dn z,
-- the difference of its positive and its negative part. Each operation has a balance, an equation between natural
-- numbers that goes into omega's list; `ext` and the laws of order and range go between the two.
-- Assumes nothing.
use Prim.Native.Nat.{ℕ, zero, suc, ◌+◌, ◌-◌, ◌≤◌, ◌<◌}
use mathlib.Core.Path.{◌≡◌, refl, sym, ap}
use mathlib.Core.Bool.{Bool, true, false, false≢true, cond}
use native.Mathlib.Omega.{arith}
use borrow.Author.Tests.{ltb-true, ltb-false, leb-true, le-leb}
use lib.Dec.{ltb}
use lib.IntN.{ℤ, pos, negsuc, sub_ℕ, neg_ℤ, ◌+ℤ◌, ◌-ℤ◌}
use lib.Signed.{le_z, lt_z}
use mir.Syntax.{w32, w64}
use mir.Val.{SFits}
use Rattle.ints.specs.Sizes.{up, dn}

-- ---- the balances

-- a - b, of natural numbers
bal_diff : (a b : ℕ) → up (sub_ℕ a b) + b ≡ dn (sub_ℕ a b) + a
bal_diff a b = go (ltb a b) refl
  where
    go : (t : Bool) → ltb a b ≡ t → up (cond t (negsuc (b - suc a)) (pos (a - b))) + b ≡ dn (cond t (negsuc (b - suc a)) (pos (a - b))) + a
    go true e = omega (arith, ltb-true a b e)
    go false e = omega (arith, ltb-false a b e)

-- x + y
pub bal_add : (x y : ℤ) → up (x +ℤ y) + (dn x + dn y) ≡ dn (x +ℤ y) + (up x + up y)
bal_add (pos a) (pos b) = omega arith
bal_add (pos a) (negsuc b) = omega (arith, bal_diff a (suc b))
bal_add (negsuc a) (pos b) = omega (arith, bal_diff b (suc a))
bal_add (negsuc a) (negsuc b) = omega arith

-- -x
pub bal_neg : (x : ℤ) → (up (neg_ℤ x) ≡ dn x) × (dn (neg_ℤ x) ≡ up x)
bal_neg (pos zero) = (refl, refl)
bal_neg (pos (suc n)) = (refl, refl)
bal_neg (negsuc n) = (refl, refl)

-- x - y
pub bal_sub : (x y : ℤ) → up (x -ℤ y) + (dn x + up y) ≡ dn (x -ℤ y) + (up x + dn y)
bal_sub x y = omega (arith, bal_add x (neg_ℤ y), bal_neg y)

-- ---- equations

-- back from natural numbers: x ≡ y where x - y is 0
pub ext : (x y : ℤ) → up x + dn y ≡ up y + dn x → x ≡ y
ext (pos a) (pos b) e = ap pos (omega arith)
ext (pos a) (negsuc b) e = absurd (omega arith)
ext (negsuc a) (pos b) e = absurd (omega arith)
ext (negsuc a) (negsuc b) e = ap negsuc (omega arith)

-- ---- ranges

-- a number that fits 32 bits, by its parts
pub range32 : (z : ℤ) → SFits w32 z → (up z < 2147483648) × (dn z ≤ 2147483648)
range32 (pos n) f = omega (arith, f.sfits)
range32 (negsuc n) f = omega (arith, f.sfits)

-- a number fits 64 bits where its value does; only one part is not 0, so a bound on their difference is enough
pub fits64 : (z : ℤ) → up z < 9223372036854775808 + dn z → dn z ≤ 9223372036854775808 + up z → SFits w64 z
fits64 (pos n) h k = record { sfits = omega arith }
fits64 (negsuc n) h k = record { sfits = omega arith }

-- ---- orders

-- x ≤ y
pub le_of : (x y : ℤ) → le_z x y ≡ true → up x + dn y ≤ up y + dn x
le_of (pos a) (pos b) e = omega (arith, leb-true a b e)
le_of (pos a) (negsuc b) e = absurd (false≢true e)
le_of (negsuc a) (pos b) e = omega arith
le_of (negsuc a) (negsuc b) e = omega (arith, leb-true b a e)

-- and back
pub to_le : (x y : ℤ) → up x + dn y ≤ up y + dn x → le_z x y ≡ true
to_le (pos a) (pos b) h = le-leb a b (omega arith)
to_le (pos a) (negsuc b) h = absurd (omega arith)
to_le (negsuc a) (pos b) h = refl
to_le (negsuc a) (negsuc b) h = le-leb b a (omega arith)

-- x < y, and x ≥ y
pub lt_of : (x y : ℤ) → lt_z x y ≡ true → up x + dn y < up y + dn x
lt_of (pos a) (pos b) e = omega (arith, ltb-true a b e)
lt_of (pos a) (negsuc b) e = absurd (false≢true e)
lt_of (negsuc a) (pos b) e = omega arith
lt_of (negsuc a) (negsuc b) e = omega (arith, ltb-true b a e)

pub ge_of : (x y : ℤ) → lt_z x y ≡ false → up y + dn x ≤ up x + dn y
ge_of (pos a) (pos b) e = omega (arith, ltb-false a b e)
ge_of (pos a) (negsuc b) e = omega arith
ge_of (negsuc a) (pos b) e = absurd (false≢true (sym e))
ge_of (negsuc a) (negsuc b) e = omega (arith, ltb-false b a e)
