-- Laws of numbers as a line writes them.
-- Assumes nothing.
use Rattle.std.proofs.Common.{◌≡◌, ℕ, ◌+◌, ◌*◌, ◌-◌, ◌<◌, ◌≤◌, Bool, true, false, ◌&&◌, not, List, [], ◌∷◌, length, get_or, min, take, drop, refl, sym, ap, ◌∙◌, arith, cond, leb, Result, Ok, Err}
use Rattle.std.proofs.lemmas.Bool.{eq-eqb, ne_eqb}
use Rattle.std.proofs.lemmas.Bool.Decides.{nat_tests}
use Rattle.std.proofs.lemmas.List.{drop_more, take_rest}
use Rattle.parse.specs.declared.numbers.NumberError.{NumberError}
use Rattle.parse.specs.declared.numbers.NumberError.TheVariants.{Malformed, Wide}
use Rattle.parse.specs.Numbers.{digits, written, digits_value, number_of, unsigned_of, positive, negative, signed_of}

-- ---- digits without a leading zero

and_true : (t : Bool) → t ≡ (t && true)
and_true true = refl
and_true false = refl

-- one byte
pub written_one : (s : List ℕ) → (length s ≡ 0 → ⊥) → length s < 2 → written s ≡ digits s
written_one [] h k = absurd (h refl)
written_one (b ∷ []) h k = and_true _
written_one (b ∷ c ∷ bs) h k = absurd (omega arith)

-- bytes of which the first is no zero
pub written_other : (s : List ℕ) → (length s ≡ 0 → ⊥) → (get_or s 0 0 ≡ 48 → ⊥) → written s ≡ digits s
written_other [] h k = absurd (h refl)
written_other (b ∷ []) h k = and_true _
written_other (b ∷ c ∷ bs) h k = ap (λ t. not t && digits (b ∷ c ∷ bs)) (ne_eqb b 48 k)

-- ---- the value

-- more digits make it no less
digits_value-le : (n : ℕ) (s : List ℕ) → n ≤ digits_value n s
digits_value-le n [] = omega arith
digits_value-le n (b ∷ bs) = omega (arith, digits_value-le (n * 10 + (b - 48)) bs)

-- with the digit at a place taken in, it is no more than with all from there on
pub digits_value_next : (n i : ℕ) (s : List ℕ) → i < length s → n * 10 + (get_or s i 0 - 48) ≤ digits_value n (drop i s)
digits_value_next n i s h = rw (drop_more s i 0 h) (digits_value-le (n * 10 + (get_or s i 0 - 48)) (drop (i + 1) s))

-- that a number is capped on the way does not show at the end
pub cap_once : (cap n : ℕ) (s : List ℕ) → min cap (digits_value n s) ≡ min cap (digits_value (min cap n) s)
cap_once cap n [] = omega arith
cap_once cap n (b ∷ bs) =
    cap_once cap (n * 10 + (b - 48)) bs ∙ ap (λ k. min cap (digits_value k bs)) (omega arith) ∙ sym (cap_once cap (min cap n * 10 + (b - 48)) bs)

-- ---- signed numbers

-- a number that may be so much at most
abbrev within : ℕ → Result ℕ NumberError → Result ℕ NumberError
within most (Err e) = Err e
within most (Ok n) = cond (leb n most) (Ok n) (Err Wide)

-- is a 32-bit number first
number_within : (most : ℕ) (s : List ℕ) → most ≤ 4294967295 → number_of most s ≡ within most (unsigned_of s)
unfolding number_of unsigned_of
number_within most s h = go (written s)
  where
    n : ℕ
    n = digits_value 0 s

    go : (w : Bool) → cond w (cond (leb n most) (Ok n) (Err Wide)) (Err Malformed) ≡ within most (cond w (cond (leb n 4294967295) (Ok n) (Err Wide)) (Err Malformed))
    go false = refl
    go true = grind (arith, nat_tests)

-- with a minus sign
pub signed_minus : (s : List ℕ) → (length s ≡ 0 → ⊥) → get_or s 0 0 ≡ 45
    → signed_of s ≡ negative (within 2147483648 (unsigned_of (take (length s - 1) (drop 1 s))))
unfolding signed_of
signed_minus [] h e = absurd (h refl)
signed_minus (b ∷ bs) h e = rw (eq-eqb b 45 e, take_rest (b ∷ bs) 1, number_within 2147483648 bs (omega arith))

-- no byte
pub signed_none : (s : List ℕ) → length s < 1 → signed_of s ≡ positive (within 2147483647 (unsigned_of s))
unfolding number_of unsigned_of signed_of
signed_none [] h = refl
signed_none (b ∷ bs) h = absurd (omega arith)

-- without
pub signed_plus : (s : List ℕ) → (get_or s 0 0 ≡ 45 → ⊥) → signed_of s ≡ positive (number_of 2147483647 s)
unfolding number_of signed_of
signed_plus [] h = refl
signed_plus (b ∷ bs) h = rw (ne_eqb b 45 h)

pub plus_within : (s : List ℕ) → (get_or s 0 0 ≡ 45 → ⊥) → signed_of s ≡ positive (within 2147483647 (unsigned_of s))
plus_within s h = signed_plus s h ∙ ap positive (number_within 2147483647 s (omega arith))

-- by the first byte
pub ruleset signs = (signed_minus, signed_none, plus_within, nat_tests)
