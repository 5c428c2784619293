-- The lent query list, as a list of records (document 01, "The board").
-- Assumes nothing.
use Rattle.std.specs.Prelude.{ℕ, zero, suc, ◌+◌, ◌-◌, min, Bool, cond, not, List, [], ◌∷◌, ◌++◌, ltb, length, take, set, replicate}
use Rattle.window.specs.declared.query.Query.{Query}
use Rattle.window.specs.Lists.{filter}
use Rattle.window.specs.Refusals.{has_number, is_registered}
use Rattle.registry.specs.Records.{record_limit, unused}

-- ---- copied and put back

-- the first m records of a list; places that it does not have count as unused
unfoldable pub padded : ℕ → List Query → List Query
padded zero xs = []
padded (suc m) [] = unused ∷ padded m []
padded (suc m) (x ∷ xs) = x ∷ padded m xs

-- the first 32
unfoldable pub first_records : List Query → List Query
first_records xs = padded record_limit xs

-- a list with these records in its first places, as far as it goes
unfoldable pub overwritten : List Query → List Query → List Query
overwritten [] xs = xs
overwritten (y ∷ ys) [] = []
overwritten (y ∷ ys) (x ∷ xs) = y ∷ overwritten ys xs

-- ---- find, append, withdraw

-- the used records: the first `count`, which are among the first 32
abbrev pub used_of : ℕ → List Query → List Query
used_of count xs = take count (take record_limit xs)

-- there is a place after the first `count` records: the list has it, and it is one of the first 32
abbrev pub has_place : ℕ → List Query → Bool
has_place count xs = ltb count (min (length xs) record_limit)

-- the record q joins there
abbrev pub appended : ℕ → Query → List Query → List Query
appended count q xs = cond (has_place count xs) (set xs count q) xs

-- how many are used then
abbrev pub appended_count : ℕ → List Query → ℕ
appended_count count xs = cond (has_place count xs) (count + 1) count

-- the used records without those that have this number
abbrev pub without : ℕ → List Query → List Query
without number qs = filter (λ (q : Query). not (has_number number q)) qs

-- these records, and unused ones after them, 32 in all
abbrev pub filled_up : List Query → List Query
filled_up qs = qs ++ replicate (record_limit - length qs) unused

-- what has this number leaves, where it is among them; what follows the others is unused, up to the 32nd record
abbrev pub withdrawn : ℕ → ℕ → List Query → List Query
withdrawn number count xs = cond (is_registered number (used_of count xs)) (overwritten (filled_up (without number (used_of count xs))) xs) xs

-- how many are used then
abbrev pub withdrawn_count : ℕ → ℕ → List Query → ℕ
withdrawn_count number count xs = cond (is_registered number (used_of count xs)) (length (without number (used_of count xs))) count
