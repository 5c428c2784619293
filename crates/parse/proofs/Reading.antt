-- Laws of a whole line.
-- Assumes nothing.
use Rattle.std.proofs.Common.{◌≡◌, ℕ, ◌<◌, ◌≤◌, List, [], ◌∷◌, length, get_or, cond, eqb, Err, refl, arith}
use Rattle.std.proofs.lemmas.Bool.Decides.{nat_tests}
use Rattle.std.proofs.lemmas.Bool.{lt-ltb, le-ltb}
use Rattle.window.specs.declared.refusal.Refusal.TheVariants.{LineTooLong, UnknownLine}
use Rattle.parse.specs.Fields.{fields_from}
use Rattle.parse.specs.Lines.{line_length, register_line, withdraw_line, reading_line, command, parsed}

-- a line that is too long
pub too_long : (l : List ℕ) → line_length < length l → parsed l ≡ Err LineTooLong
unfolding parsed
too_long l h = rw (lt-ltb line_length (length l) h)

-- one that is short enough
pub parsed_short : (l : List ℕ) → length l ≤ line_length → parsed l ≡ command (fields_from l 0)
unfolding parsed fields_from
parsed_short l h = rw (le-ltb line_length (length l) h, le-ltb (length l) 0 (omega arith))

-- no field, which no line has
pub command_nothing : command [] ≡ Err UnknownLine
unfolding command
command_nothing = refl

-- a first field of one byte
pub command_letter : (first : List ℕ) (fields : List (List ℕ)) → length first ≡ 1
    → command (first ∷ fields) ≡ cond (eqb (get_or first 0 0) 82) (register_line fields) (cond (eqb (get_or first 0 0) 68) (withdraw_line fields) (cond (eqb (get_or first 0 0) 86) (reading_line fields) (Err UnknownLine)))
unfolding command
command_letter [] fields h = absurd (omega arith)
command_letter (b ∷ []) fields h = grind (arith, nat_tests)
command_letter (b ∷ c ∷ bs) fields h = absurd (omega arith)

-- a first field of none or of more
pub command_other : (first : List ℕ) (fields : List (List ℕ)) → (length first ≡ 1 → ⊥) → command (first ∷ fields) ≡ Err UnknownLine
unfolding command
command_other [] fields h = refl
command_other (b ∷ []) fields h = absurd (h refl)
command_other (b ∷ c ∷ bs) fields h = grind (arith, nat_tests)

-- what a line asks, by its length and its first field
pub ruleset lines = (too_long, parsed_short, command_nothing, command_letter, command_other)
