-- The laws of a bound on the size of a number: how it is found, kept and tested, and what a clamp leaves.
-- Assumes nothing.
use Rattle.std.proofs.Common.{◌≡◌, ℕ, ◌+◌, ◌<◌, ◌≤◌, true, false, ℤ, pos, negsuc, neg_ℤ, ◌+ℤ◌, ◌-ℤ◌, to_z, of_z, arith, w32, w64, FitsSigned}
use Rattle.std.proofs.lemmas.Int.{ints, clamps}
use Rattle.std.specs.Int.Signed.{le_z, lt_z}
use Rattle.ints.specs.Sizes.{up, dn, Small, clamped}

-- one of up and dn is 0, so a bound on their difference bounds each
pub small_of : (z : ℤ) (b : ℕ) → up z ≤ b + dn z → dn z ≤ b + up z → Small b z
small_of (pos n) b h k = record { above = omega (arith, ints); below = omega (arith, ints) }
small_of (negsuc n) b h k = record { above = omega (arith, ints); below = omega (arith, ints) }

pub small-more : (b c : ℕ) (z : ℤ) → b ≤ c → Small b z → Small c z
small-more b c z l s = record { above = omega (arith, ints); below = omega (arith, ints) }

-- sums and differences
pub small_add : (a b : ℕ) (x y : ℤ) → Small a x → Small b y → Small (a + b) (x +ℤ y)
small_add a b x y s t = record { above = omega (arith, ints); below = omega (arith, ints) }

pub small_sub : (a b : ℕ) (x y : ℤ) → Small a x → Small b y → Small (a + b) (x -ℤ y)
small_sub a b x y s t = record { above = omega (arith, ints); below = omega (arith, ints) }

-- a reading is at most 2^31 in size
pub small-reading : (z : ℤ) → FitsSigned w32 z → Small 2147483648 z
small-reading z f = record { above = omega (arith, ints); below = omega (arith, ints) }

-- what is small fits
pub small-fits : (b : ℕ) (z : ℤ) → b < 9223372036854775808 → Small b z → FitsSigned w64 z
small-fits b z l s = omega (arith, ints)

-- ---- the ends of a bound, as the machine has them

module _ (b : ℕ) (l : b < 9223372036854775808) where
  -- the greatest number within it
  pub most_fits : FitsSigned w64 (pos b)
  most_fits = omega (arith, ints)

  pub most_is : to_z w64 b ≡ pos b
  most_is = omega (arith, ints)

  -- the least one
  pub least_fits : FitsSigned w64 (pos 0 -ℤ to_z w64 b)
  least_fits = omega (arith, ints)

  pub least_is : to_z w64 (of_z w64 (pos 0 -ℤ to_z w64 b)) ≡ neg_ℤ (pos b)
  least_is = omega (arith, ints)

-- ---- what is small

module _ (b : ℕ) (z : ℤ) where
  -- a number above the greatest is not small
  pub above_large : lt_z (pos b) z ≡ true → Small b z → ⊥
  above_large h s = omega (arith, ints)

  -- nor is one below the least
  pub below_large : lt_z z (neg_ℤ (pos b)) ≡ true → Small b z → ⊥
  below_large h s = omega (arith, ints)

  -- one between them is
  pub between-small : lt_z (pos b) z ≡ false → le_z (neg_ℤ (pos b)) z ≡ true → Small b z
  between-small h k = record { above = omega (arith, ints); below = omega (arith, ints) }

  pub small-above : Small b z → le_z (neg_ℤ (pos b)) z ≡ true
  small-above s = grind (arith, ints)

  -- ---- the clamp

  -- what is clamped is small
  pub clamped-small : Small b (clamped b z)
  clamped-small = record { above = omega (arith, ints, clamps); below = omega (arith, ints, clamps) }

  -- what is small is left as it is
  pub clamped-same : Small b z → clamped b z ≡ z
  clamped-same s = omega (arith, ints, clamps)
