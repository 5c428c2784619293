-- The lines that a session prints (document 01, "Session lines"): fields parted by one tab, byte 10 at the end.
-- Assumes nothing.
use Rattle.std.specs.Prelude.{ℕ, List, [], ◌∷◌, ◌++◌, ℤ}
use Rattle.print.specs.Decimal.{decimal, decimalℤ}

-- each field with a tab before it, and byte 10
abbrev pub tabbed : List (List ℕ) → List ℕ
tabbed [] = 10 ∷ []
tabbed (f ∷ fs) = (9 ∷ f) ++ tabbed fs

-- a line: its letter and its fields
abbrev pub row : ℕ → List (List ℕ) → List ℕ
row letter fields = letter ∷ tabbed fields

-- A, n, number, kind, count, value; A is byte 65
unfoldable pub answer_line : (n number kind count : ℕ) → ℤ → List ℕ
answer_line n number kind count value =
    row 65 (decimal n ∷ decimal number ∷ decimal kind ∷ decimal count ∷ decimalℤ value ∷ [])

-- E, the line's number, the refusal; E is byte 69
unfoldable pub refusal_line : (line refusal : ℕ) → List ℕ
refusal_line line refusal = row 69 (decimal line ∷ decimal refusal ∷ [])

-- T, n, P, M, N; T is byte 84
unfoldable pub totals_line : (n closed maxima minima : ℕ) → List ℕ
totals_line n closed maxima minima = row 84 (decimal n ∷ decimal closed ∷ decimal maxima ∷ decimal minima ∷ [])

-- ---- how many bytes a line takes at most, with numbers of 64 bits

abbrev pub answer_room : ℕ
answer_room = 108

abbrev pub refusal_room : ℕ
refusal_room = 44

abbrev pub totals_room : ℕ
totals_room = 86
