-- What holds of every ledger: starts rise, and M and N are at most 2 P - 2, by the standing entries as the potential.
-- Assumes nothing.
use mathlib.Core.Bool.{Bool}
use mathlib.Core.List.{List, [], ◌∷◌, ◌++◌}
use Prim.Native.Nat.{ℕ, ◌+◌, ◌*◌, ◌-◌, ◌≤◌, suc-le-suc, zero-le}
use native.Mathlib.Omega.{arith}
use lib.ListN.{length, length-append}
use lib.IntN.{ℤ}
use lib.Signed.{le_z}
use Rattle.window.specs.Orders.{ge_z}
use Rattle.window.proofs.Standing.{closing_cost, standing_nonempty}
use Rattle.board.specs.declared.aggregate.Aggregate.{Aggregate}
use Rattle.board.specs.Aggregates.{maximum_of, minimum_of, entry_by, entries_by, Rising, Before}
use Rattle.board.specs.Ledgers.{Ledger, close_with, closing_comparisons, Amortized, Consistent}
use Rattle.board.proofs.Lists.{entries_from_lem, entries_snoc, rising_snoc, rising_sorted}

module _ (below : ℤ → ℤ → Bool) (f : Aggregate → ℤ) (m h : ℕ) (a : Aggregate) where
  closed-later : (cs : List Aggregate) → 1 ≤ length cs → Rising cs → Amortized below f m cs → Amortized below f (m + closing_comparisons below f h a cs) (cs ++ (a ∷ []))
  closed-later cs l r k =
      record {
        bound =
            rw (entries_snoc f cs a, length-append cs (a ∷ []), ← entries_from_lem f h cs)
            (omega (arith, k.bound, closing_cost below h (entries_by f cs) (entry_by f a) (rising_sorted f cs r)));
        some_stand = rw (entries_snoc f cs a) (omega (arith, standing_nonempty below (entries_by f cs) (entry_by f a)));
      }

  -- a closing keeps the bound
  closed_amortized : (cs : List Aggregate) → Rising cs → Amortized below f m cs → Amortized below f (m + closing_comparisons below f h a cs) (cs ++ (a ∷ []))
  closed_amortized [] r k = record { bound = omega (arith, k.bound); some_stand = omega arith }
  closed_amortized (c ∷ cs) r k = closed-later (c ∷ cs) (suc-le-suc zero-le) r k

-- so at most 2 P - 2
pub amortized_bound : (below : ℤ → ℤ → Bool) (f : Aggregate → ℤ) (m : ℕ) (cs : List Aggregate) → Amortized below f m cs → m ≤ 2 * length cs - 2
amortized_bound below f m cs k = omega (arith, k.bound, k.some_stand)

-- a ledger with one more closed, that starts after all
pub closed-consistent : (h : ℕ) (a : Aggregate) (l : Ledger) → Consistent l → Before a.start l.closed → Consistent (close_with h a l)
closed-consistent h a l k before =
    record {
      rising = rising_snoc l.closed a k.rising before;
      max_amortized = closed_amortized le_z maximum_of l.max_comparisons h a l.closed k.rising k.max_amortized;
      min_amortized = closed_amortized ge_z minimum_of l.min_comparisons h a l.closed k.rising k.min_amortized;
    }
