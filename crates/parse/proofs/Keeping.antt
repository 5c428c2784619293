-- Laws of the bytes that are kept of the current line.
-- Assumes nothing.
use Rattle.std.proofs.Common.{◌≡◌, ℕ, zero, suc, ◌+◌, ◌-◌, ◌<◌, ◌≤◌, min, List, [], ◌∷◌, ◌++◌, length, take, refl, sym, ap, ◌∙◌, ◌⊎◌, inl, inr, arith, rules}
use Rattle.std.proofs.lemmas.Bool.{cases_lt}
use Rattle.std.proofs.lemmas.List.{take_all, take_min, length-take, length-take-le, places}
use Rattle.std.proofs.lemmas.Slice.{overwrites, drop-put_mid}
use borrow.Rule.Slice.PartMut.{put_mid}
use Rattle.std.proofs.Math.Seq.{take-append-add}
use Rattle.parse.specs.Lines.{line_length, parsed}
use Rattle.parse.specs.Kept.{kept_length, kept_line, SameBeyond}
use Rattle.parse.proofs.Reading.{too_long}

-- ---- the first 65 bytes of a line tell what it asks

pub parsed-kept : (l : List ℕ) → parsed (take kept_length l) ≡ parsed l
parsed-kept l = go (cases_lt line_length (length l))
  where
    go : (line_length < length l) ⊎ (length l ≤ line_length) → parsed (take kept_length l) ≡ parsed l
    go (inl long) = too_long (take kept_length l) (omega (arith, length-take kept_length l)) ∙ sym (too_long l long)
    go (inr short) = ap parsed (take_all kept_length l (omega arith))

-- where none is kept, the line asks what the piece does
pub parsed_piece : (kept : ℕ) (line piece : List ℕ) → kept ≡ 0 → parsed piece ≡ parsed (take kept_length (kept_line kept line ++ piece))
parsed_piece kept line piece e = rw e (sym (parsed-kept piece))

-- ---- bytes that join those that are kept

-- of which the first m are kept
pub take-joined : (m : ℕ) (l xs : List ℕ) → take m (take m l ++ xs) ≡ take m (l ++ xs)
take-joined zero l xs = refl
take-joined (suc m) [] xs = refl
take-joined (suc m) (x ∷ l) xs = ap (λ (t : List ℕ). x ∷ t) (take-joined m l xs)

-- as many bytes of a piece as there is room for, behind the first `start`, are the first 65 of all
pub piece_joined : (line piece : List ℕ) (start end : ℕ) → start ≤ length line → start ≤ kept_length → end ≡ min (start + length piece) kept_length
    → take start line ++ take (end - start) piece ≡ take kept_length (take start line ++ piece)
piece_joined line piece start end h k e =
    let first : List ℕ = take start line in
    let all : length first + (kept_length - start) ≡ kept_length = omega (arith, length-take-le start line h) in
    let room : min (kept_length - start) (length piece) ≡ end - start = omega arith in
    ap (λ t. first ++ t) (ap (λ m. take m piece) (sym room) ∙ take_min (kept_length - start) piece) ∙ sym (take-append-add first piece (kept_length - start)) ∙ ap (λ m. take m (first ++ piece)) all

-- bytes that are written before the 66th leave those beyond
pub beyond_written : (line bytes : List ℕ) (start end : ℕ) → start ≤ end → end ≤ kept_length → kept_length ≤ length line → length bytes ≡ end - start
    → SameBeyond line (put_mid start (end - start) line bytes)
beyond_written line bytes start end h k l e =
    (search (rules, places), drop-put_mid start (end - start) line bytes kept_length (omega arith) (omega arith) e)

-- what is kept after a piece was written behind it
pub ruleset keeping = (overwrites, piece_joined, beyond_written)
