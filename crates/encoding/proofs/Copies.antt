-- A loop that copies: what one turn makes. No proof needs it today; it is a law that documents named.
-- Assumes nothing.
use Prim.Native.Nat.{ℕ, suc, ◌+◌, ◌<◌}
use mathlib.Core.Path.{◌≡◌, sym, ◌∙◌}
use mathlib.Core.List.{List, ◌++◌}
use native.Mathlib.Omega.{arith}
use lib.ListN.{length, get_or, take, drop, set}
use lib.Seq.{drop-cons, take-suc, set_at, length-take-le, append_snoc}

-- s was copied over the first i places of t: with one turn more, over one place more
pub copied_more : {A : Type 0} (d : A) (s t now : List A) (i : ℕ) → i < length s → i < length t → now ≡ take i s ++ drop i t
    → set now i (get_or s i d) ≡ take (i + 1) s ++ drop (i + 1) t
copied_more {A} d s t now i l g e =
    rw (e, one i, drop-cons t i d g, take-suc s i d l)
    (set_at (take i s) (get_or t i d) (drop (suc i) t) (get_or s i d) i (length-take-le i s (omega arith)) ∙ sym (append_snoc (take i s) (get_or s i d) (drop (suc i) t)))
  where
    one : (m : ℕ) → m + 1 ≡ suc m
    one m = omega arith
