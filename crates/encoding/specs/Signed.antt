-- A signed number as an unsigned one: 0, -1, 1, -2, 2 and so on are 0, 1, 2, 3, 4.
-- Assumes nothing.
use Rattle.std.specs.Prelude.{ℕ, ◌+◌, ◌*◌, ◌/◌, ◌%◌, cond, eqb, ℤ, pos, negsuc}

-- the unsigned number of z; negsuc n is -(n + 1)
abbrev pub unsigned : ℤ → ℕ
unsigned (pos n) = 2 * n
unsigned (negsuc n) = 2 * n + 1

-- the signed number of w
unfoldable pub signed : ℕ → ℤ
signed w = cond (eqb (w % 2) 0) (pos (w / 2)) (negsuc (w / 2))
