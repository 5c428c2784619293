-- What the promises of all five calls have in common, for the crates that make them on lent lists.
-- Assumes nothing.
use Prim.Native.Nat.{ℕ}
use mathlib.Core.Path.{◌≡◌}
use mathlib.Core.Bool.{false}
use mathlib.Core.List.{List}
use lib.IntN.{ℤ}
use Rattle.window.specs.Calls.{Call, Outcome, refused}
use Rattle.registry.specs.Records.{ListKept}
use Rattle.engine.specs.Machine.{Machine, machine_long}
use Rattle.engine.specs.Promises.{Promise, StartEnsures, Ensures, ReadingEnsures}

-- check 1, that a refused call changes nothing, and that nothing beyond the query list's numbers is written
pub record Steady (promise : Promise) : Type 0 where
  pub short : (m m' : Machine) (o : Outcome) → promise m o m' → machine_long m ≡ false → o ≡ refused 1
  pub unchanged : (m m' : Machine) (o : Outcome) (k : ℕ) → promise m o m' → o ≡ refused k → m' ≡ m
  pub listed : (m m' : Machine) (o : Outcome) → promise m o m' → ListKept m.list m'.list

-- a start is such
pub start_steady : Steady StartEnsures
start_steady = record { short = λ m m' o p. p.short; unchanged = λ m m' o k p. p.unchanged k; listed = λ m m' o p. p.list_kept }

-- so is every other call
pub call_steady : (c : Call) → Steady (Ensures c)
call_steady c = record { short = λ m m' o p. p.short; unchanged = λ m m' o k p. p.unchanged k; listed = λ m m' o p. p.list_kept }

-- and a reading
pub reading_steady : (v : ℤ) (before after : List ℤ) → Steady (ReadingEnsures v before after)
reading_steady v before after = record { short = λ m m' o p. p.ensures.short; unchanged = λ m m' o k p. p.ensures.unchanged k; listed = λ m m' o p. p.ensures.list_kept }
