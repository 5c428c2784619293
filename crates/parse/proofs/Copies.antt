-- A loop that copies bytes of a chunk behind those that are kept: what one turn makes. No proof needs it today; it is a
-- law that documents named.
-- Assumes nothing.
use mathlib.Core.Path.{◌≡◌, refl, sym, ap, ◌∙◌}
use Prim.Native.Nat.{ℕ, suc, ◌+◌, ◌≤◌, ◌<◌}
use native.Mathlib.Numerals.{add-one}
use native.Mathlib.Omega.{arith}
use mathlib.Core.List.{List, [], ◌∷◌, ◌++◌, append_assoc, append-nil}
use lib.ListN.{length, get_or, take, drop, set, length-drop, length-set}
use lib.Seq.{take-suc, take-suc-set, drop-set-lt, get_or-drop}
use Rattle.parse.specs.Kept.{kept_length}

-- one byte more of a list from a place on
next_is : (from i : ℕ) (l : List ℕ) → from + i < length l → take (i + 1) (drop from l) ≡ take i (drop from l) ++ (get_or l (from + i) 0 ∷ [])
next_is from i l h =
    rw add-one (take-suc (drop from l) i 0 (omega (arith, length-drop from l)) ∙ ap (λ (x : ℕ). take i (drop from l) ++ (x ∷ [])) (get_or-drop from l i 0))

-- i bytes of the chunk, from a place on, stand behind the first bytes of the old ones; beyond the first 65 all is as it
-- was
pub record Copied (old : List ℕ) (start : ℕ) (chunk : List ℕ) (from : ℕ) (line : List ℕ) (i : ℕ) : Type 0 where
  pub as_long : length line ≡ length old
  pub text : take (start + i) line ≡ take start old ++ take i (drop from chunk)
  pub beyond : drop kept_length line ≡ drop kept_length old

module _ (old : List ℕ) (start : ℕ) (chunk : List ℕ) (from : ℕ) where
  pub copied_none : Copied old start chunk from old 0
  copied_none =
      let q : start + 0 ≡ start = omega arith in
      record { as_long = refl; text = ap (λ (m : ℕ). take m old) q ∙ sym (append-nil (take start old)); beyond = refl }

  -- one byte more
  pub copied_more : (line : List ℕ) (i : ℕ) → kept_length ≤ length old → start + i < kept_length → from + i < length chunk → Copied old start chunk from line i
      → Copied old start chunk from (set line (start + i) (get_or chunk (from + i) 0)) (i + 1)
  copied_more line i room h k p =
      let b : ℕ = get_or chunk (from + i) 0 in
      let q : start + (i + 1) ≡ suc (start + i) = omega arith in
      record {
        as_long = length-set line (start + i) b ∙ p.as_long;
        text =
            ap (λ (m : ℕ). take m (set line (start + i) b)) q ∙ take-suc-set line (start + i) b (omega (arith, p.as_long)) ∙ ap (λ (t : List ℕ). t ++ (b ∷ [])) p.text
            ∙ append_assoc (take start old) (take i (drop from chunk)) (b ∷ []) ∙ ap (λ (t : List ℕ). take start old ++ t) (sym (next_is from i chunk k));
        beyond = drop-set-lt kept_length line (start + i) b h ∙ p.beyond;
      }
