-- A law of slices: `slice f t l` is what stands in l from place f up to place t.
-- Assumes nothing.
use Rattle.std.proofs.Common.{◌≡◌, ℕ, ◌≤◌, List, ◌++◌, length, take, drop, sym, ap, ◌∙◌, arith}
use Rattle.std.proofs.lemmas.List.{take-take, take-append-drop, drop-append-le, length-take-le}
use Rattle.std.proofs.Math.Seq.{slice}

-- two slices that meet
pub slice_then : (f i t : ℕ) (l : List ℕ) → f ≤ i → i ≤ t → t ≤ length l → slice f i l ++ slice i t l ≡ slice f t l
slice_then f i t l h k m =
    let front : take i l ++ slice i t l ≡ take t l = ap (λ (a : List ℕ). a ++ slice i t l) (sym (take-take i t l k)) ∙ take-append-drop i (take t l) in
    sym (drop-append-le f (take i l) (slice i t l) (omega (arith, length-take-le i l (omega arith)))) ∙ ap (drop f) front
