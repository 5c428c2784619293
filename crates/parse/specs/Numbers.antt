-- Numbers as a session line writes them (document 01, "Session lines"): digits without a leading zero, or 0. Bytes are
-- natural numbers.
-- Assumes nothing.
use Rattle.std.specs.Prelude.{ℕ, ◌+◌, ◌*◌, ◌-◌, Bool, false, not, ◌&&◌, cond, List, [], ◌∷◌, leb, eqb, ℤ, pos, neg_ℤ, fold, Result, Ok, Err}
use Rattle.std.specs.Char.{is_ascii_digit}
use Rattle.std.specs.List.{list_all}
use Rattle.window.specs.declared.refusal.Refusal.{Refusal}
use Rattle.window.specs.declared.refusal.Refusal.TheVariants.{NotANumber, OutsideWidth}
use Rattle.parse.specs.declared.numbers.NumberError.{NumberError}
use Rattle.parse.specs.declared.numbers.NumberError.TheVariants.{Malformed, Wide}

-- every byte is a digit: byte 48 is 0, byte 57 is 9
abbrev pub digits : List ℕ → Bool
digits s = list_all is_ascii_digit s

-- digits without a leading zero, or 0
abbrev pub written : List ℕ → Bool
written [] = false
written (b ∷ []) = is_ascii_digit b
written (b ∷ c ∷ bs) = not (eqb b 48) && digits (b ∷ c ∷ bs)

-- the number that these digits make behind those of n
abbrev pub digits_value : ℕ → List ℕ → ℕ
digits_value n s = fold (λ value b. value * 10 + (b - 48)) n s

-- an unsigned number that may be at most `most`
unfoldable pub number_of : ℕ → List ℕ → Result ℕ NumberError
number_of most s =
    cond (written s) (cond (leb (digits_value 0 s) most) (Ok (digits_value 0 s)) (Err Wide)) (Err Malformed)

-- an unsigned 32-bit number
unfoldable pub unsigned_of : List ℕ → Result ℕ NumberError
unsigned_of s = number_of 4294967295 s

-- without a sign
abbrev pub positive : Result ℕ NumberError → Result ℤ NumberError
positive (Err e) = Err e
positive (Ok n) = Ok (pos n)

-- with a minus sign, which stands before a number other than 0
abbrev pub negative : Result ℕ NumberError → Result ℤ NumberError
negative (Err e) = Err e
negative (Ok n) = cond (eqb n 0) (Err Malformed) (Ok (neg_ℤ (pos n)))

-- a signed 32-bit number; byte 45 is the minus sign
unfoldable pub signed_of : List ℕ → Result ℤ NumberError
signed_of [] = Err Malformed
signed_of (b ∷ bs) = cond (eqb b 45) (negative (number_of 2147483648 bs)) (positive (number_of 2147483647 (b ∷ bs)))

-- the refusal of a field that is no number: 14 where it is not written as one, 15 where it is outside its width
abbrev pub refusal_of : NumberError → Refusal
refusal_of Malformed = NotANumber
refusal_of Wide = OutsideWidth
