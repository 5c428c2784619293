-- The fields of a line: they are parted by one tab, byte 9. Bytes are natural numbers.
-- Assumes nothing.
use Rattle.std.specs.Prelude.{◌≡◌, ℕ, ◌+◌, ◌==◌, cond, List, [], ◌∷◌, ltb, length, drop, Option, None, Some}
use Rattle.std.specs.Borrow.{Bor}
use Rattle.std.specs.List.{slice_split}
use Rattle.parse.specs.declared.fields.Fields.{Fields}

-- the parts of a line, parted at every byte b
abbrev pub parts : ℕ → List ℕ → List (List ℕ)
parts b l = slice_split (λ x. x == b) l

-- all fields from a position on; beyond the line there is none
unfoldable pub fields_from : List ℕ → ℕ → List (List ℕ)
fields_from l at = cond (ltb (length l) at) [] (parts 9 (drop at l))

-- those that are left
abbrev pub fields_left : Fields → List (List ℕ)
fields_left fields = fields_from fields.line.now fields.at

-- the first field that is left was given, and the position is one beyond its end; or none was left, and nothing changed
abbrev pub GivesField : Fields → Option (Bor (List ℕ)) → Fields → Type 0
GivesField old None new = (fields_left old ≡ []) × (new ≡ old)
GivesField old (Some field) new =
    (fields_left old ≡ field.now ∷ fields_left new) × (new.line ≡ old.line) × (new.at ≡ old.at + length field.now + 1)
