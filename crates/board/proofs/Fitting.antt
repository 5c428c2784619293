-- The numbers that a closing adds fit; those that it is given are the aggregate's, and the entries what eviction leaves.
-- Assumes nothing.
use Prim.Native.Nat.{ℕ, ◌+◌, ◌≤◌, ◌<◌, ◌^◌}
use mathlib.Core.Path.{◌≡◌, ap₂, ◌∙◌}
use mathlib.Core.Bool.{Bool}
use mathlib.Core.List.{List}
use native.Mathlib.Omega.{arith}
use lib.IntN.{ℤ}
use mir.Syntax.{w64}
use mir.Val.{to_z, of_z}
use mir.Facts.{to_z-of_z}
use Rattle.ints.specs.Sizes.{Small}
use Rattle.ints.proofs.Sizes.{small-fits}
use Rattle.window.specs.Queries.{count_limit}
use Rattle.window.specs.Partials.{Entry}
use Rattle.deque.specs.declared.extremes.Deque.{Deque}
use Rattle.deque.specs.Rings.{capacity, entry_with, appended}
use Rattle.deque.specs.Extremes.{trim_comparisons, closed_with}
use Rattle.deque.specs.Sums.{sum_limit}
use Rattle.board.specs.Boards.{total_limit}
use Rattle.board.proofs.Holding.{DequeClosed}

-- a total with the comparisons of one closing more
pub total-fits : (closed total : ℕ) → closed < count_limit → total ≤ total_limit closed → total + capacity < 2 ^ 64
total-fits closed total l h = omega arith

-- the sum of a partial as the machine has it
pub sum_is : (sum : ℤ) → Small sum_limit sum → to_z w64 (of_z w64 sum) ≡ sum
sum_is sum s = to_z-of_z (small-fits sum_limit sum (omega arith) s)

-- evicting and then closing with the value as the machine has it is closing with the value on the evicted entries: of the
-- partials with their sums
pub sums-closed : (start : ℕ) {v v₁ : ℤ} {es es₁ left : List (Entry ℤ)} → v₁ ≡ v → es₁ ≡ es → left ≡ appended (entry_with start v₁) es₁ → left ≡ appended (entry_with start v) es
sums-closed start e f c = c ∙ ap₂ (λ (z : ℤ). appended (entry_with start z)) e f

-- and of a deque
pub deque_closed : {below : ℤ → ℤ → Bool} {start m m₁ : ℕ} {v v₁ : ℤ} {es es₁ : List (Entry ℤ)} {starts : List ℕ} {values : List ℤ} {d : Deque} → v₁ ≡ v → es₁ ≡ es → m₁ ≡ m
    → DequeClosed below (entry_with start v₁) es₁ m₁ starts values d → DequeClosed below (entry_with start v) es m starts values d
deque_closed {below} {start} e f g c =
    record {
      fits = c.fits;
      entries = c.entries ∙ ap₂ (λ (z : ℤ). closed_with below (entry_with start z)) e f;
      cost = c.cost ∙ ap₂ ◌+◌ g (ap₂ (λ (z : ℤ). trim_comparisons below (entry_with start z)) e f);
    }
