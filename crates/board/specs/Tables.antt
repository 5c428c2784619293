-- The lent tables (document 01: the board).
-- Assumes nothing.
use Rattle.std.specs.Prelude.{ℕ, ◌≡◌, Bool, ◌&&◌, List, ◌++◌, leb, ℤ, pos, length, replicate, drop}
use Rattle.deque.specs.Rings.{capacity}

-- the six tables, as lists
pub record Tables : Type 0 where
  -- starts and sums of partials
  pub starts : List ℕ
  pub sums : List ℤ
  -- starts and values for maxima, and for minima
  pub max_starts : List ℕ
  pub max_values : List ℤ
  pub min_starts : List ℕ
  pub min_values : List ℤ

-- the tables, in this order
abbrev pub tables : List ℕ → List ℤ → List ℕ → List ℤ → List ℕ → List ℤ → Tables
tables a b c d e f = record { starts = a; sums = b; max_starts = c; max_values = d; min_starts = e; min_values = f }

-- check 1, by the lengths of the six tables: each has 4,096 places or more
unfoldable pub enough : (a b c d e f : ℕ) → Bool
enough a b c d e f =
    leb capacity a && (leb capacity b && (leb capacity c && (leb capacity d && (leb capacity e && leb capacity f))))

-- the same of tables
abbrev pub tables_long : Tables → Bool
tables_long t =
    enough (length t.starts) (length t.sums) (length t.max_starts) (length t.max_values) (length t.min_starts) (length t.min_values)

-- a table with its first 4,096 places 0
abbrev pub zeroed : {A : Type 0} → A → List A → List A
zeroed nought t = replicate capacity nought ++ drop capacity t

-- the tables with the first 4,096 places of each 0
abbrev pub zeroed_tables : Tables → Tables
zeroed_tables t =
    tables
    (zeroed 0 t.starts)
    (zeroed (pos 0) t.sums)
    (zeroed 0 t.max_starts)
    (zeroed (pos 0) t.max_values)
    (zeroed 0 t.min_starts)
    (zeroed (pos 0) t.min_values)

-- a slice is as long as it was, and beyond its first k places it is as it was
pub record KeptBeyond {A : Type 0} (k : ℕ) (before after : List A) : Type 0 where
  pub as_long : length after ≡ length before
  pub beyond : drop k after ≡ drop k before

-- each of the six is kept beyond its first 4,096 places
pub record TablesKept (before after : Tables) : Type 0 where
  pub starts : KeptBeyond capacity before.starts after.starts
  pub sums : KeptBeyond capacity before.sums after.sums
  pub max_starts : KeptBeyond capacity before.max_starts after.max_starts
  pub max_values : KeptBeyond capacity before.max_values after.max_values
  pub min_starts : KeptBeyond capacity before.min_starts after.min_starts
  pub min_values : KeptBeyond capacity before.min_values after.min_values
