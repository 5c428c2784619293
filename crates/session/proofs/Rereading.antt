-- Numbers are printed as they are read: a printed number, read again within the width that is read, is that number.
-- Assumes nothing.
use mathlib.Core.Path.{◌≡◌, refl, ap, ◌∙◌}
use Prim.Native.Nat.{ℕ, zero, suc, ◌+◌, ◌*◌, ◌-◌, ◌/◌, ◌%◌, ◌≤◌, ◌<◌}
use native.Mathlib.Omega.{arith}
use mathlib.Core.Bool.{Bool, true, false, not, ◌&&◌, cond, false≢true}
use mathlib.Core.List.{List, [], ◌∷◌, ◌++◌}
use lib.Dec.{eqb, leb, ltb}
use lib.IntN.{ℤ, pos, negsuc}
use borrow.Author.Tests.{ltb-true, ltb-false, le-leb, leb-true, ne_eqb}
use mir.Syntax.{w32}
use mir.Val.{SFits}
use Rattle.window.proofs.Lists.{and_left, and_right}
use Rattle.std.specs.Prelude.{Ok, Err}
use Rattle.std.specs.Char.{is_ascii_digit}
use Rattle.parse.specs.Numbers.{digits, written, digits_value, number_of, signed_of, positive, negative}
use Rattle.parse.specs.declared.numbers.NumberError.TheVariants.{Malformed}
use Rattle.parse.proofs.Digits.{signed_plus}
use Rattle.print.specs.Decimal.{decimal, decimalℤ}
use Rattle.print.proofs.Digits.{decimal-small, decimal_large}

-- ---- one more digit at the end

value_snoc : (k : ℕ) (xs : List ℕ) (b : ℕ) → digits_value k (xs ++ (b ∷ [])) ≡ digits_value k xs * 10 + (b - 48)
value_snoc k [] b = refl
value_snoc k (x ∷ xs) b = value_snoc (k * 10 + (x - 48)) xs b

both : (p q : Bool) → p ≡ true → q ≡ true → (p && q) ≡ true
both p q h e = ap (λ (t : Bool). t && q) h ∙ e

digits_snoc : (xs : List ℕ) (b : ℕ) → digits xs ≡ true → is_ascii_digit b ≡ true → digits (xs ++ (b ∷ [])) ≡ true
digits_snoc [] b h e = both (is_ascii_digit b) true e refl
digits_snoc (x ∷ xs) b h e =
    both (is_ascii_digit x) (digits (xs ++ (b ∷ []))) (and_left (is_ascii_digit x) (digits xs) h) (digits_snoc xs b (and_right (is_ascii_digit x) (digits xs) h) e)

-- behind a number other than 0
written_snoc : (xs : List ℕ) (b : ℕ) → 1 ≤ digits_value 0 xs → written xs ≡ true → is_ascii_digit b ≡ true → written (xs ++ (b ∷ [])) ≡ true
written_snoc [] b l h e = absurd (false≢true h)
written_snoc (x ∷ []) b l h e =
    both (not (eqb x 48)) (digits (x ∷ b ∷ [])) (ap not (ne_eqb x 48 (λ s. omega arith))) (digits_snoc (x ∷ []) b (both (is_ascii_digit x) true h refl) e)
written_snoc (x ∷ y ∷ xs) b l h e =
    both (not (eqb x 48)) (digits (x ∷ y ∷ (xs ++ (b ∷ [])))) (and_left (not (eqb x 48)) (digits (x ∷ y ∷ xs)) h)
    (digits_snoc (x ∷ y ∷ xs) b (and_right (not (eqb x 48)) (digits (x ∷ y ∷ xs)) h) e)

-- ---- what is printed

-- xs is how n is written
record Text (n : ℕ) (xs : List ℕ) : Type 0 where
  value : digits_value 0 xs ≡ n
  well : written xs ≡ true

digit_of : (d : ℕ) → d < 10 → is_ascii_digit (48 + d) ≡ true
digit_of d h = both (leb 48 (48 + d)) (leb (48 + d) 57) (le-leb 48 (48 + d) (omega arith)) (le-leb (48 + d) 57 (omega arith))

text_snoc : (n : ℕ) (xs : List ℕ) → 10 ≤ n → Text (n / 10) xs → Text n (xs ++ ((48 + n % 10) ∷ []))
text_snoc n xs h t = record {
  value = omega (arith, value_snoc 0 xs (48 + n % 10));
  well = written_snoc xs (48 + n % 10) (omega arith) t.well (digit_of (n % 10) (omega arith));
}

text-small : (n : ℕ) → n < 10 → Text n (decimal n)
text-small n h = rw (decimal-small n h) (record { value = omega arith; well = digit_of n h })

-- for n within a bound
text-within : (bound n : ℕ) → n ≤ bound → Text n (decimal n)
text-within zero n h = text-small n (omega arith)
text-within (suc bound) n h = go (ltb n 10) refl (text-within bound (n / 10))
  where
    go : (t : Bool) → ltb n 10 ≡ t → (n / 10 ≤ bound → Text (n / 10) (decimal (n / 10))) → Text n (decimal n)
    go true e ih = text-small n (ltb-true n 10 e)
    go false e ih =
        let l : 10 ≤ n = ltb-false n 10 e in
        rw (decimal_large n l) (text_snoc n (decimal (n / 10)) l (ih (omega arith)))

text : (n : ℕ) → Text n (decimal n)
text n = text-within n n (omega arith)

pub reread : (most n : ℕ) → n ≤ most → number_of most (decimal n) ≡ Ok n
unfolding number_of
reread most n h = rw ((text n).well, (text n).value, le-leb n most h)

-- ---- signed numbers

written-first : (x : ℕ) (xs : List ℕ) → written (x ∷ xs) ≡ true → is_ascii_digit x ≡ true
written-first x [] h = h
written-first x (y ∷ xs) h = and_left (is_ascii_digit x) (digits (y ∷ xs)) (and_right (not (eqb x 48)) (digits (x ∷ y ∷ xs)) h)

-- the first byte of a number is no minus sign
unsigned : (xs : List ℕ) → written xs ≡ true → signed_of xs ≡ positive (number_of 2147483647 xs)
unsigned [] h = absurd (false≢true h)
unsigned (x ∷ xs) h =
    let l : 48 ≤ x = leb-true 48 x (and_left (leb 48 x) (leb x 57) (written-first x xs h)) in
    signed_plus (x ∷ xs) (λ e. omega arith)

pub reread_signed : (z : ℤ) → SFits w32 z → signed_of (decimalℤ z) ≡ Ok z
unfolding decimalℤ signed_of
reread_signed (pos n) f = unsigned (decimal n) (text n).well ∙ ap positive (reread 2147483647 n (omega arith))
reread_signed (negsuc n) f =
    ap negative (reread 2147483648 (suc n) (omega arith)) ∙ ap (λ (t : Bool). cond t (Err Malformed) (Ok (negsuc n))) (ne_eqb (suc n) 0 (λ e. omega arith))
