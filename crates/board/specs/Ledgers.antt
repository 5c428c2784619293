-- A ledger: the list of all that is closed, with the comparisons made. What a board stands for, without readings or
-- queries.
-- Assumes nothing.
use Rattle.std.specs.Prelude.{ℕ, ◌+◌, ◌*◌, ◌≤◌, min, Bool, cond, List, [], ◌∷◌, ◌++◌, map, eqb, ℤ, length}
use Rattle.std.specs.Int.Signed.{le_z}
use Rattle.window.specs.Orders.{ge_z, sum, maximum, minimum}
use Rattle.window.specs.Queries.{sum_kind, maximum_kind}
use Rattle.window.specs.Standing.{standing, comparisons}
use Rattle.board.specs.declared.aggregate.Aggregate.{Aggregate}
use Rattle.board.specs.Aggregates.{sum_of, maximum_of, minimum_of, closed_from, entry_by, entries_by, Rising}

pub record Ledger : Type 0 where
  -- all that is closed since the start, in the order of closing; P is its length
  pub closed : List Aggregate
  -- M and N: the comparisons made, for maxima and for minima
  pub max_comparisons : ℕ
  pub min_comparisons : ℕ

-- a ledger from its parts, in this order
abbrev pub ledger : List Aggregate → ℕ → ℕ → Ledger
ledger cs m n = record { closed = cs; max_comparisons = m; min_comparisons = n }

-- nothing is closed
abbrev pub nothing_closed : Ledger
nothing_closed = ledger [] 0 0

-- what the closing of a adds to M (`le_z`, maxima) or N (`ge_z`, minima): of those that start at the horizon or later,
-- the comparisons with what stands
abbrev pub closing_comparisons : (ℤ → ℤ → Bool) → (Aggregate → ℤ) → ℕ → Aggregate → List Aggregate → ℕ
closing_comparisons below f h a cs = comparisons below (standing below (entries_by f (closed_from h cs))) (entry_by f a)

-- a closes, with the horizon h
abbrev pub close_with : ℕ → Aggregate → Ledger → Ledger
close_with h a l =
    ledger (l.closed ++ (a ∷ []))
    (l.max_comparisons + closing_comparisons le_z maximum_of h a l.closed)
    (l.min_comparisons + closing_comparisons ge_z minimum_of h a l.closed)

-- of a sum, a maximum and a minimum the one of a kind; for every other kind the minimum
abbrev pub by_kind : ℕ → (sum maximum minimum : ℤ) → ℤ
by_kind kind s x n = cond (eqb kind sum_kind) s (cond (eqb kind maximum_kind) x n)

-- the value of a kind over these; 0 over none
unfoldable pub value_over : ℕ → List Aggregate → ℤ
value_over kind cs = by_kind kind (sum (map sum_of cs)) (maximum (map maximum_of cs)) (minimum (map minimum_of cs))

-- ---- what holds of every ledger that closings lead to

-- the amortized bound, with the entries that stand of all that is closed as the potential. With P closed, m comparisons
-- made and S standing: m + S is at most 2 P - 1, and 0 where P is 0; S is at least 1 where P is. So m is at most 2 P - 2
-- (`amortized_bound`)
pub record Amortized (below : ℤ → ℤ → Bool) (f : Aggregate → ℤ) (m : ℕ) (cs : List Aggregate) : Type 0 where
  pub bound : m + length (standing below (entries_by f cs)) + min (length cs) 1 ≤ 2 * length cs
  pub some_stand : min (length cs) 1 ≤ length (standing below (entries_by f cs))

-- starts rise, and M and N are bounded
pub record Consistent (l : Ledger) : Type 0 where
  pub rising : Rising l.closed
  pub max_amortized : Amortized le_z maximum_of l.max_comparisons l.closed
  pub min_amortized : Amortized ge_z minimum_of l.min_comparisons l.closed
