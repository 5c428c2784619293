-- What a session line asks, or the refusal that it gets (document 01, "Session lines", and refusals 12 to 15). `Line`
-- is the code's own enumeration.
-- Assumes nothing.
use Rattle.std.specs.Prelude.{ℕ, cond, List, [], ◌∷◌, ltb, length, codes, Result, Ok, Err}
use Rattle.std.specs.Str.{bytes_eq}
use Rattle.window.specs.declared.refusal.Refusal.{Refusal}
use Rattle.window.specs.declared.refusal.Refusal.TheVariants.{LineTooLong, UnknownLine}
use Rattle.parse.specs.declared.numbers.NumberError.{NumberError}
use Rattle.parse.specs.declared.line.Line.{Line}
use Rattle.parse.specs.declared.line.Line.TheVariants.{Register, Withdraw, Reading}
use Rattle.parse.specs.Fields.{parts}
use Rattle.parse.specs.Numbers.{unsigned_of, signed_of, refusal_of}

-- the longest line
abbrev pub line_length : ℕ
line_length = 64

-- ---- by the number of fields after the first: 13 where it is another. Then field by field from the left, the first
-- that is no number refuses the line

-- what is made of a number, or the refusal of a field that is none
abbrev pub number_then : {A : Type 0} → Result A NumberError → (A → Result Line Refusal) → Result Line Refusal
number_then (Err e) next = Err (refusal_of e)
number_then (Ok n) next = next n

-- R number kind range slide
abbrev pub register_line : List (List ℕ) → Result Line Refusal
register_line (a ∷ b ∷ c ∷ d ∷ []) =
    number_then (unsigned_of a) (λ number. number_then (unsigned_of b) (λ kind. number_then (unsigned_of c) (λ range. number_then (unsigned_of d) (λ slide. Ok (Register (record { number = number; kind = kind; range = range; slide = slide }))))))
register_line _ = Err UnknownLine

-- D number
abbrev pub withdraw_line : List (List ℕ) → Result Line Refusal
withdraw_line (a ∷ []) = number_then (unsigned_of a) (λ number. Ok (Withdraw number))
withdraw_line _ = Err UnknownLine

-- V value
abbrev pub reading_line : List (List ℕ) → Result Line Refusal
reading_line (a ∷ []) = number_then (signed_of a) (λ value. Ok (Reading value))
reading_line _ = Err UnknownLine

-- ---- a line

-- by its fields; a line has one at least. The first says what it asks
unfoldable pub command : List (List ℕ) → Result Line Refusal
command [] = Err UnknownLine
command (first ∷ fields) =
    cond (bytes_eq first (codes "R")) (register_line fields)
    (cond (bytes_eq first (codes "D")) (withdraw_line fields)
    (cond (bytes_eq first (codes "V")) (reading_line fields) (Err UnknownLine)))

-- a line of more than 64 bytes gives 12
unfoldable pub parsed : List ℕ → Result Line Refusal
parsed line = cond (ltb line_length (length line)) (Err LineTooLong) (command (parts 9 line))
