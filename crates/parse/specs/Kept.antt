-- The bytes that are kept of the current line: as many as tell what it asks.
-- Assumes nothing.
use Rattle.std.specs.Prelude.{◌≡◌, ℕ, ◌+◌, min, List, length, take, drop}
use Rattle.parse.specs.Lines.{line_length}

-- how many bytes of a line are kept: one more than the longest has
abbrev pub kept_length : ℕ
kept_length = line_length + 1

-- the bytes that are kept of the current line: the first of those that the caller lends, so many, or all that may be
abbrev pub kept_line : ℕ → List ℕ → List ℕ
kept_line kept line = take (min kept kept_length) line

-- of the bytes that the caller lends none is written beyond those that may be kept
abbrev pub SameBeyond : List ℕ → List ℕ → Type 0
SameBeyond old new = (length new ≡ length old) × (drop kept_length new ≡ drop kept_length old)
