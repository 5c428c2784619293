-- A signed number without its sign, as the machine finds it. For a number below 0 it negates the next one, since the
-- negation of the least number does not fit.
-- Assumes nothing.
use Prim.Native.Nat.{suc, ◌-◌, ◌≤◌}
use mathlib.Core.Path.{◌≡◌, refl, sym, ap, ◌∙◌}
use mathlib.Core.Bool.{true, false, false≢true}
use native.Mathlib.Omega.{arith}
use borrow.Author.Tests.{ltb-true}
use lib.Dec.{T}
use lib.IntN.{ℤ, pos, negsuc, nat_abs, ◌+ℤ◌, ◌-ℤ◌}
use lib.Signed.{lt_z, non_neg}
use mir.Syntax.{w64}
use mir.Val.{Fits, SFits, to_z, of_z}
use mir.Facts.{to_z-of_z}
use Rattle.ints.proofs.Balance.{bal_add, bal_sub, ext, fits64}
use Rattle.ints.proofs.Round.{add_is, sub_fits}

-- ---- a number below 0

-- its size is at least 1, and at most 2^63
pub below-size : (z : ℤ) → SFits w64 z → lt_z z (pos 0) ≡ true → (1 ≤ nat_abs z) × (nat_abs z ≤ 9223372036854775808)
below-size (pos n) f h = absurd (omega (arith, ltb-true n 0 h))
below-size (negsuc n) f h = omega (arith, f.sfits)

pub next_fits : (z : ℤ) → SFits w64 z → lt_z z (pos 0) ≡ true → SFits w64 (z +ℤ pos 1)
next_fits (pos n) f h = absurd (omega (arith, ltb-true n 0 h))
next_fits (negsuc n) f h =
    let b = bal_add (negsuc n) (pos 1) in
    fits64 (negsuc n +ℤ pos 1) (omega arith) (omega (arith, f.sfits))

-- the next number, negated, is one less than its size
negated : (z : ℤ) → lt_z z (pos 0) ≡ true → pos 0 -ℤ (z +ℤ pos 1) ≡ pos (nat_abs z - 1)
negated (pos n) h = absurd (omega (arith, ltb-true n 0 h))
negated (negsuc n) h =
    ext (pos 0 -ℤ (negsuc n +ℤ pos 1)) (pos (suc n - 1)) (omega (arith, bal_sub (pos 0) (negsuc n +ℤ pos 1), bal_add (negsuc n) (pos 1)))

-- the same in locals
module _ (z : ℤ) (f : SFits w64 z) (h : lt_z z (pos 0) ≡ true) where
  next_is : to_z w64 (of_z w64 (to_z w64 (of_z w64 z) +ℤ pos 1)) ≡ z +ℤ pos 1
  next_is = add_is {b = pos 1} (to_z-of_z f) refl (next_fits z f h)

  pub negated_fits : SFits w64 (pos 0 -ℤ to_z w64 (of_z w64 (to_z w64 (of_z w64 z) +ℤ pos 1)))
  negated_fits = sub_fits {a = pos 0} refl next_is (rw (negated z h) (record { sfits = omega (arith, below-size z f h) }))

  pub negated_is : to_z w64 (of_z w64 (pos 0 -ℤ to_z w64 (of_z w64 (to_z w64 (of_z w64 z) +ℤ pos 1)))) ≡ pos (nat_abs z - 1)
  negated_is = to_z-of_z negated_fits ∙ ap (λ y. pos 0 -ℤ y) next_is ∙ negated z h

-- ---- any other

pub other_fits : (z : ℤ) → SFits w64 z → lt_z z (pos 0) ≡ false → T (non_neg z) × Fits w64 (nat_abs z)
other_fits (pos n) f h = (tt, record { fits = omega (arith, f.sfits) })
other_fits (negsuc n) f h = absurd (false≢true (sym h))
