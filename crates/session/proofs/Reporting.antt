-- Laws of what a reading prints: its answers, one after the other.
-- Assumes nothing.
use Rattle.std.proofs.Common.{◌≡◌, ap, ◌∙◌, ℕ, zero, suc, ◌+◌, ◌*◌, ◌^◌, ◌<◌, List, [], ◌∷◌, ◌++◌, append_assoc, append-nil, ℤ, pos, get_or, take, drop, length, to_z, of_z, to_z-of_z, refl, add-one, add_assoc, arith}
use Rattle.std.proofs.lemmas.List.{get_or-drop, get_or-take, length-take}
use Rattle.std.specs.Simd.{first_chunks}
use lib.Signed.{mag}
use mir.Syntax.{w64}
use mir.Val.{hbits}
use borrow.Author.Rules.{sfits_of}
use Rattle.window.specs.Refusals.{answer_places}
use Rattle.window.specs.Calls.{Answer}
use Rattle.engine.specs.Answers.{answers_in}
use Rattle.print.specs.Put.{Put}
use Rattle.print.proofs.Putting.{put_then}
use Rattle.session.specs.Meaning.{answer_text, answer_texts, answer_at}

-- ---- one answer

-- a place of an answer table, as it is read
pub place_read : (t : List ℤ) (j : ℕ) → mag (get_or t j (pos 0)) < 2 ^ hbits w64 → to_z w64 (of_z w64 (get_or t j (pos 0))) ≡ get_or t j (pos 0)
place_read t j h = to_z-of_z {w = w64} (sfits_of h)

-- an answer reads no place beyond its own
answer-own : (t : List ℤ) → answer_at (take answer_places t) 0 ≡ answer_at t 0
answer-own t =
    rw (get_or-take answer_places t 0 (pos 0) (omega arith), get_or-take answer_places t 1 (pos 0) (omega arith), get_or-take answer_places t 2 (pos 0) (omega arith), get_or-take answer_places t 3 (pos 0) (omega arith)) refl

-- ---- one after the other

-- an answer behind the first
answer-later : (t : List ℤ) (i : ℕ) → answer_at (drop answer_places t) i ≡ answer_at t (suc i)
answer-later t i = let later : answer_places * suc i ≡ answer_places + answer_places * i = omega arith in simp (get_or-drop, later, add_assoc)

-- answer i of a table, in so many answers of it
answer-among : (count i : ℕ) (t : List ℤ) → i < count → answer_at (get_or (first_chunks answer_places count t) i []) 0 ≡ answer_at t i
answer-among zero i t h = absurd (omega (arith, h))
answer-among (suc count) zero t h = answer-own t
answer-among (suc count) (suc i) t h = answer-among count i (drop answer_places t) (omega (arith, h)) ∙ answer-later t i

-- and among the first k of them
pub answer-taken : (k count i : ℕ) (t : List ℤ) {answers : List (List ℤ)} → answers ≡ first_chunks answer_places count t → length answers ≡ count → i < length (take k answers)
    → answer_at (get_or (take k answers) i []) 0 ≡ answer_at t i
answer-taken k count i t {answers} all many h =
    rw (get_or-take k answers i [] (omega (arith, h, length-take k answers)), all) (answer-among count i t (omega (arith, h, many, length-take k answers)))

-- one answer more
answers-more : (i : ℕ) (t : List ℤ) → answers_in (suc i) t ≡ answers_in i t ++ (answer_at t i ∷ [])
answers-more zero t = refl
answers-more (suc i) t = ap (λ more. answer_at t 0 ∷ more) (rw (answers-more i (drop answer_places t), answer-later t i))

-- its line comes last
texts_more : (n : ℕ) (given : List Answer) (a : Answer) → answer_texts n (given ++ (a ∷ [])) ≡ answer_texts n given ++ answer_text n a
texts_more n [] a = append-nil (answer_text n a)
texts_more n (b ∷ bs) a = rw (texts_more n bs a, append_assoc)

-- what is printed of an answer is printed of the same one
pub same_printed : (n : ℕ) (d e : Answer) {m o : List ℕ} {b c : ℕ} → Put m b (answer_text n d) o c → d ≡ e → Put m b (answer_text n e) o c
same_printed n d e q same = rw same at q

-- after i answers, one more
pub answers-printed : (n i : ℕ) (t : List ℤ) {l m o : List ℕ} {a b c : ℕ} → Put l a (answer_texts n (answers_in i t)) m b → Put m b (answer_text n (answer_at t i)) o c → Put l a (answer_texts n (answers_in (i + 1) t)) o c
answers-printed n i t p q =
    let more : answers_in (i + 1) t ≡ answers_in i t ++ (answer_at t i ∷ []) = rw (add-one i) (answers-more i t) in
    rw (more, texts_more) (put_then p q)
