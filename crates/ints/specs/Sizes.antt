-- The size of a signed number.
-- Assumes nothing.
use Rattle.std.specs.Prelude.{ℕ, suc, ℤ, pos, negsuc, neg_ℤ, ◌≤ℤ◌}
use Rattle.std.specs.Int.{int_max, int_min}

-- the positive part of z, and the negative part: z is up z - dn z, and one of them is 0. Only laws use them.
abbrev pub up : ℤ → ℕ
up (pos n) = n
up (negsuc n) = 0

abbrev pub dn : ℤ → ℕ
dn (pos n) = 0
dn (negsuc n) = suc n

-- z is at most b, and at least -b
pub record Small (b : ℕ) (z : ℤ) : Type 0 where
  pub above : z ≤ℤ pos b
  pub below : neg_ℤ (pos b) ≤ℤ z

-- z, or the nearest number that is at most b in size
abbrev pub clamped : ℕ → ℤ → ℤ
clamped b z = int_max (neg_ℤ (pos b)) (int_min z (pos b))
