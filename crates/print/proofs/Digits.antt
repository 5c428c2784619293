-- The laws of numbers in base ten.
-- Assumes nothing.
use Rattle.std.proofs.Common.{◌≡◌, refl, sym, ℕ, zero, suc, ◌+◌, ◌*◌, ◌^◌, ◌/◌, ◌%◌, ◌≤◌, ◌<◌, true, false, [], ◌∷◌, ◌++◌, length, inl, inr, ℤ, pos, negsuc, unsigned_abs, lit<, arith}
use Rattle.std.proofs.Math.Nat.{pow-suc, pow-le-pow_right}
use Rattle.std.specs.Fmt as fmt
use Rattle.std.proofs.lemmas.Fmt.{decimal_by_steps, decimal_is_IsNumeral, length-decimal-le}
use Rattle.std.proofs.lemmas.Int.Digits.{digits_value-lt}
use Rattle.std.proofs.lemmas.Bool.{cases_lt}
use Rattle.std.specs.Int.{is_negative}
use borrow.Author.Tests.{ltb-true, lt-ltb, le-ltb}
use Rattle.print.specs.Decimal.{decimal_in, decimal, decimalℤ}

-- ---- digit by digit

-- any bound that is at least n gives the same digits
enough : (a b n : ℕ) → n ≤ a → n ≤ b → decimal_in a n ≡ decimal_in b n
enough zero zero n h k = refl
enough zero (suc b) n h k = rw (lt-ltb n 10 (omega arith))
enough (suc a) zero n h k = rw (lt-ltb n 10 (omega arith))
enough (suc a) (suc b) n h k = elim (cases_lt n 10) [
  | inl l ↦ rw (lt-ltb n 10 l)
  | inr l ↦ rw (le-ltb n 10 l, enough a b (n / 10) (omega arith) (omega arith))
]

-- one digit
pub decimal-small : (n : ℕ) → n < 10 → decimal n ≡ (48 + n) ∷ []
unfolding decimal
decimal-small zero h = refl
decimal-small (suc n) h = rw (lt-ltb (suc n) 10 h)

-- several: those of n / 10, and the last
pub decimal_large : (n : ℕ) → 10 ≤ n → decimal n ≡ decimal (n / 10) ++ ((48 + n % 10) ∷ [])
unfolding decimal
decimal_large zero h = absurd (omega arith)
decimal_large (suc n) h = rw (le-ltb (suc n) 10 h, enough n (suc n / 10) (suc n / 10) (omega arith) (omega arith))

-- ---- a number of 64 bits

-- it has the digits that the library writes
pub decimal_same : (n : ℕ) → n < 2 ^ 64 → fmt.decimal n ≡ decimal n
decimal_same =
    decimal_by_steps (λ n ds. ds ≡ decimal n) (λ n h. sym (decimal-small n h))
    (λ n ds h e. rw (e, decimal_large n h))

-- it has at most 20
pub decimal_twenty : (n : ℕ) → n < 18446744073709551616 → length (decimal n) ≤ 20
decimal_twenty n h = rw (← decimal_same n h) (length-decimal-le 20 n (omega arith) (omega arith) h)

-- one more than the power of ten that it reaches
pub decimal_counted : (k n : ℕ) → n < 2 ^ 64 → 10 ^ k ≤ n → n < 10 * 10 ^ k → length (decimal n) ≡ k + 1
decimal_counted k n h low high =
    let most : length (fmt.decimal n) ≤ suc k = length-decimal-le (suc k) n (omega arith) (omega (arith, pow-suc 10 k)) h in
    let numeral = decimal_is_IsNumeral n h in
    let below : n < 10 ^ length (fmt.decimal n) = rw numeral.1 at (digits_value-lt 10 (fmt.decimal n) numeral.0.1) in
    rw (← decimal_same n h)
    (elim (cases_lt k (length (fmt.decimal n))) [
      | inl l ↦ omega arith
      | inr l ↦ absurd (omega (arith, pow-le-pow_right {n = 10} (lit< tt) l))
    ])

-- those that say how many
pub ruleset counts = (decimal-small, decimal_twenty, decimal_counted)

-- ---- signed numbers

pub minus-text : (z : ℤ) → is_negative z ≡ true → 45 ∷ decimal (unsigned_abs z) ≡ decimalℤ z
unfolding decimalℤ
minus-text (pos n) h = absurd (omega (arith, ltb-true n 0 h))
minus-text (negsuc n) h = refl

pub plain_text : (z : ℤ) → is_negative z ≡ false → decimal (unsigned_abs z) ≡ decimalℤ z
unfolding decimalℤ
plain_text (pos n) h = refl
plain_text (negsuc n) h = cc
