-- The sample session of document 01, its case 11 and some ends of inputs: what is fed, and what is printed.
-- `proofs/Cases.antt` proves that the definitions say so.
-- Assumes nothing.
use Rattle.std.specs.Prelude.{ℕ, ◌+◌, List, [], ◌∷◌, ℤ, pos, neg_ℤ, replicate}
use Rattle.window.specs.Lists.{joined}
use Rattle.print.specs.Decimal.{decimal, decimalℤ}
use Rattle.print.specs.Lines.{row, answer_line, refusal_line, totals_line}

-- ---- lines as a user writes them

-- R number kind range slide; R is byte 82
abbrev pub register_text : (number kind range slide : ℕ) → List ℕ
register_text number kind range slide = row 82 (decimal number ∷ decimal kind ∷ decimal range ∷ decimal slide ∷ [])

-- D number; D is byte 68
abbrev pub withdraw_text : ℕ → List ℕ
withdraw_text number = row 68 (decimal number ∷ [])

-- V value; V is byte 86
abbrev pub reading_text : ℤ → List ℕ
reading_text value = row 86 (decimalℤ value ∷ [])

-- V and any bytes
abbrev pub reading_bytes : List ℕ → List ℕ
reading_bytes bytes = row 86 (bytes ∷ [])

-- digits as bytes
abbrev pub digit_bytes : List ℕ → List ℕ
digit_bytes [] = []
digit_bytes (d ∷ ds) = (48 + d) ∷ digit_bytes ds

-- ---- sessions, with what each prints

pub record Case : Type 0 where
  pub input : List ℕ
  pub output : List ℕ

-- an input by its lines, and the lines that it prints
abbrev case : List (List ℕ) → List (List ℕ) → Case
case input output = record { input = joined input; output = joined output }

abbrev pub input_of : Case → List ℕ
input_of c = c.input

abbrev pub output_of : Case → List ℕ
output_of c = c.output

abbrev pub cases : List Case
cases =
    -- the sample session
    case
    (register_text 2 1 5 3 ∷ reading_text (pos 5) ∷ reading_text (pos 3) ∷ reading_text (pos 3) ∷ register_text 7 3 2 2 ∷ reading_text (pos 8)
    ∷ reading_text (neg_ℤ (pos 2)) ∷ withdraw_text 2 ∷ withdraw_text 2 ∷ reading_text (pos 6) ∷ [])
    (answer_line 3 2 1 3 (pos 11) ∷ answer_line 5 7 3 2 (pos 8) ∷ refusal_line 9 9 ∷ totals_line 6 4 4 4 ∷ [])
    -- case 11: a line of 64 bytes is parsed (its number is outside its width), one of 65 is refused; `V -0`, `V
    -- 2147483648`, and the ends of the width
    ∷ case
    (reading_bytes (replicate 62 49) ∷ reading_bytes (replicate 63 49) ∷ reading_bytes (45 ∷ 48 ∷ []) ∷ reading_bytes (digit_bytes (2 ∷ 1 ∷ 4 ∷ 7 ∷ 4 ∷ 8 ∷ 3 ∷ 6 ∷ 4 ∷ 8 ∷ []))
    ∷ reading_bytes (digit_bytes (2 ∷ 1 ∷ 4 ∷ 7 ∷ 4 ∷ 8 ∷ 3 ∷ 6 ∷ 4 ∷ 7 ∷ [])) ∷ reading_bytes (45 ∷ digit_bytes (2 ∷ 1 ∷ 4 ∷ 7 ∷ 4 ∷ 8 ∷ 3 ∷ 6 ∷ 4 ∷ 8 ∷ [])) ∷ reading_bytes (45 ∷ digit_bytes (2 ∷ 1 ∷ 4 ∷ 7 ∷ 4 ∷ 8 ∷ 3 ∷ 6 ∷ 4 ∷ 9 ∷ [])) ∷ [])
    (refusal_line 1 15 ∷ refusal_line 2 12 ∷ refusal_line 3 14 ∷ refusal_line 4 15 ∷ refusal_line 7 15 ∷ totals_line 2 0 0 0 ∷ [])
    -- a last line without byte 10 counts if it has a byte
    ∷ case (register_text 1 1 1 1 ∷ (86 ∷ 9 ∷ 55 ∷ []) ∷ []) (answer_line 1 1 1 1 (pos 7) ∷ totals_line 1 1 0 0 ∷ [])
    -- an empty line, and the empty input
    ∷ case ((10 ∷ []) ∷ []) (refusal_line 1 13 ∷ totals_line 0 0 0 0 ∷ [])
    ∷ case [] (totals_line 0 0 0 0 ∷ [])
    ∷ []
