-- Numbers in base ten, as bytes.
-- Assumes nothing.
use Rattle.std.specs.Prelude.{ℕ, zero, suc, ◌+◌, ◌/◌, ◌%◌, cond, List, [], ◌∷◌, ◌++◌, ltb, ℤ, pos, negsuc}

-- n in base ten, with at most so many digits before the last; byte 48 is 0
abbrev pub decimal_in : ℕ → ℕ → List ℕ
decimal_in zero n = (48 + n) ∷ []
decimal_in (suc most) n = cond (ltb n 10) ((48 + n) ∷ []) (decimal_in most (n / 10) ++ ((48 + n % 10) ∷ []))

-- n in base ten, without a leading zero: it has at most n digits before the last
unfoldable pub decimal : ℕ → List ℕ
decimal n = decimal_in n n

-- a signed number; byte 45 is the minus sign
unfoldable pub decimalℤ : ℤ → List ℕ
decimalℤ (pos n) = decimal n
decimalℤ (negsuc n) = 45 ∷ decimal (suc n)
