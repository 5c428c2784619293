-- A 32-bit signed number that is widened to 64 bits.
-- Assumes nothing.
use Rattle.std.proofs.Common.{◌≡◌, ℤ, FitsSigned, to_z, of_z, w32, w64, arith}
use Rattle.std.proofs.lemmas.Int.{ints}

-- it fits
pub wide_fits : {z : ℤ} → FitsSigned w32 z → FitsSigned w64 (to_z w32 (of_z w32 z))
wide_fits f = omega (arith, ints)

-- and is the same number
pub wide_is : {z : ℤ} → FitsSigned w32 z → to_z w64 (of_z w64 (to_z w32 (of_z w32 z))) ≡ z
wide_is f = omega (arith, ints)
