-- The laws of a signed number as an unsigned one.
-- Assumes nothing.
use Rattle.std.proofs.Common.{◌≡◌, refl, ap, ◌∙◌, ℕ, ◌+◌, ◌*◌, ◌/◌, ◌%◌, ◌<◌, Bool, true, false, cond, ℤ, w32, arith, Result, Ok, Err}
use Rattle.std.proofs.lemmas.Bool.{eq-eqb, ne_eqb, lt-ltb}
use Rattle.std.proofs.lemmas.Int.{ints, to_z-of_z}
use Rattle.std.specs.Result.{OkIff, result_unwrap_or}
use lib.Dec.{eqb}
use lib.IntN.{pos, negsuc}
use mir.Val.{SFits}
use Rattle.encoding.specs.Signed.{unsigned, signed}
use Rattle.encoding.specs.Written.{width32, narrow}

-- ---- reading

-- an even number
pub even_is : (w : ℕ) → w % 2 ≡ 0 → signed w ≡ pos (w / 2)
unfolding signed
even_is w h = rw (eq-eqb (w % 2) 0 h) refl

-- an odd one
pub odd_is : (w : ℕ) → (w % 2 ≡ 0 → ⊥) → signed w ≡ negsuc (w / 2)
unfolding signed
odd_is w h = rw (ne_eqb (w % 2) 0 h) refl

-- for `signed`: it is half the number, or the negation of that, less 1
pub ruleset halves = (even_is, odd_is, ints)

-- ---- what is written is read again

pub signed-unsigned : (z : ℤ) → signed (unsigned z) ≡ z
signed-unsigned (pos n) = even_is (2 * n) (omega arith) ∙ ap pos (omega arith)
signed-unsigned (negsuc n) = odd_is (2 * n + 1) (λ e. omega arith) ∙ ap negsuc (omega arith)

-- ---- numbers of 32 bits

-- that of a signed number of 32 bits is one
pub unsigned-narrow : (z : ℤ) → SFits w32 z → unsigned z < width32
unsigned-narrow (pos n) f = omega (arith, f.sfits)
unsigned-narrow (negsuc n) f = omega (arith, f.sfits)

-- one of 32 bits is that of a signed number of 32 bits, and no other is
pub signed-fits : (w : ℕ) → (w < width32 → SFits w32 (signed w)) × (SFits w32 (signed w) → w < width32)
unfolding signed
signed-fits w = go (eqb (w % 2) 0)
  where
    go : (b : Bool) → (w < width32 → SFits w32 (cond b (pos (w / 2)) (negsuc (w / 2)))) × (SFits w32 (cond b (pos (w / 2)) (negsuc (w / 2))) → w < width32)
    go true = (λ l. record { sfits = omega arith }, λ f. omega (arith, f.sfits))
    go false = (λ l. record { sfits = omega arith }, λ f. omega (arith, f.sfits))

-- it is read as it is
pub narrow-same : (w : ℕ) → w < width32 → narrow w ≡ w
narrow-same w l = rw (lt-ltb w width32 l) refl

-- the signed number where it is one of 32 bits, and else 0
pub narrowed : {E : Type 0} (w : ℕ) (r : Result ℤ E) → OkIff r (SFits w32 (signed w)) (signed w) → result_unwrap_or r (pos 0) ≡ signed (narrow w)
narrowed w (Ok x) h = grind (arith, signed-fits w, narrow-same)
narrowed w (Err e) h = grind (arith, signed-fits w, even_is 0)

-- for `narrow_signed`
pub ruleset narrowing = (to_z-of_z, narrowed)
