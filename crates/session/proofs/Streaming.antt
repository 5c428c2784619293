-- Bytes that are fed one after the other print what the lines of the input do.
-- Assumes nothing.
use Prim.Native.Nat.{ℕ, ◌+◌, ◌≤◌}
use native.Mathlib.Omega.{arith}
use mathlib.Core.Path.{◌≡◌, refl, sym, ap, ◌∙◌}
use mathlib.Core.Bool.{Bool, true, false, cond}
use mathlib.Core.List.{List, [], ◌∷◌, ◌++◌, append_assoc, append-nil}
use lib.Dec.{eqb}
use lib.ListN.{length}
use Rattle.std.specs.List.{onto_first}
use Rattle.parse.specs.Lines.{parsed}
use Rattle.session.specs.Meaning.{Position, lines, line_reported, lines_reported, fresh, finished, totals_text, session_output}
use Rattle.session.specs.Stream.{Running, Streamed, opened, line_ended, line_extended, fed, following, fed_all, ended}

-- ---- the lines of an input, of which a first part is the current line

-- a last line counts if it has a byte
abbrev last : List ℕ → List (List ℕ)
last [] = []
last (b ∷ bs) = (b ∷ bs) ∷ []

-- the current line, and the lines of what follows it
abbrev behind : List ℕ → List (List ℕ) → List (List ℕ)
behind line [] = last line
behind line (l ∷ ls) = (line ++ l) ∷ ls

behind_none : (ls : List (List ℕ)) → behind [] ls ≡ ls
behind_none [] = refl
behind_none (l ∷ ls) = refl

last_more : (line : List ℕ) (b : ℕ) → last (line ++ (b ∷ [])) ≡ (line ++ (b ∷ [])) ∷ []
last_more [] b = refl
last_more (x ∷ xs) b = refl

-- a byte that joins the current line
behind_onto : (line : List ℕ) (b : ℕ) (ls : List (List ℕ)) → behind (line ++ (b ∷ [])) ls ≡ behind line (onto_first b ls)
behind_onto line b [] = last_more line b
behind_onto line b (l ∷ ls) = ap (λ (t : List ℕ). t ∷ ls) (append_assoc line (b ∷ []) l)

-- ---- byte by byte is line by line

-- all that is printed where the input ends here
abbrev pub whole : Streamed → List ℕ
whole s = s.text ++ ended s.running

abbrev at : Position → List ℕ → Running
at p line = record { position = p; line = line }

-- no byte more
ends : (p : Position) (line : List ℕ) → ended (at p line) ≡ finished (lines_reported p (last line))
unfolding ended
ends p [] = refl
ends p (b ∷ bs) =
    ap (λ (t : List ℕ). t ++ totals_text (line_reported p (parsed (b ∷ bs))).position.state) (sym (append-nil (line_reported p (parsed (b ∷ bs))).text))

-- whatever the current line
bytes_are_lines : (bs : List ℕ) (p : Position) (line : List ℕ) → whole (fed_all (at p line) bs) ≡ finished (lines_reported p (behind line (lines bs)))
unfolding fed
bytes_are_lines [] p line = ends p line
bytes_are_lines (b ∷ bs) p line = go (eqb b 10) (bytes_are_lines bs)
  where
    r : Running
    r = at p line

    -- the line ends here
    ending : ((q : Position) → whole (fed_all (at q []) bs) ≡ finished (lines_reported q (behind [] (lines bs))))
        → whole (following (line_ended r).text (fed_all (line_ended r).running bs)) ≡ finished (lines_reported p (line ∷ lines bs))
    ending ih =
        let q : Position = (line_reported p (parsed line)).position in
        append_assoc (line_ended r).text (fed_all (at q []) bs).text (ended (fed_all (at q []) bs).running)
        ∙ ap (λ (t : List ℕ). (line_ended r).text ++ t) (ih q ∙ ap (λ (ls : List (List ℕ)). finished (lines_reported q ls)) (behind_none (lines bs)))
        ∙ sym (append_assoc (line_ended r).text (lines_reported q (lines bs)).text (totals_text (lines_reported q (lines bs)).position.state))

    go : (t : Bool) → ((q : Position) (l : List ℕ) → whole (fed_all (at q l) bs) ≡ finished (lines_reported q (behind l (lines bs))))
        → whole (following (cond t (line_ended r) (line_extended r (b ∷ []))).text (fed_all (cond t (line_ended r) (line_extended r (b ∷ []))).running bs))
        ≡ finished (lines_reported p (behind line (cond t ([] ∷ lines bs) (onto_first b (lines bs)))))
    go true ih = ending (λ q. ih q []) ∙ ap (λ (l : List ℕ). finished (lines_reported p (l ∷ lines bs))) (sym (append-nil line))
    go false ih = ih p (line ++ (b ∷ [])) ∙ ap (λ (ls : List (List ℕ)). finished (lines_reported p ls)) (behind_onto line b (lines bs))

-- every input, byte by byte from the first
pub whole_input : (input : List ℕ) → whole (fed_all opened input) ≡ session_output input
unfolding session_output
whole_input input = bytes_are_lines input fresh [] ∙ ap (λ (ls : List (List ℕ)). finished (lines_reported fresh ls)) (behind_none (lines input))

-- ---- cut anywhere

-- bytes in two parts
pub fed-append : (r : Running) (xs ys : List ℕ) → fed_all r (xs ++ ys) ≡ following (fed_all r xs).text (fed_all (fed_all r xs).running ys)
fed-append r [] ys = refl
fed-append r (x ∷ xs) ys =
    ap (following (fed r x).text) (fed-append (fed r x).running xs ys)
    ∙ ap (λ (t : List ℕ). record { running = (fed_all (fed_all (fed r x).running xs).running ys).running; text = t })
    (sym (append_assoc (fed r x).text (fed_all (fed r x).running xs).text (fed_all (fed_all (fed r x).running xs).running ys).text))

-- ---- how many lines

-- no more lines end than there are bytes
pub lines-few : (bs : List ℕ) (r : Running) → (fed_all r bs).running.position.lines ≤ r.position.lines + length bs
unfolding fed
lines-few [] r = omega arith
lines-few (b ∷ bs) r = go (eqb b 10) (lines-few bs)
  where
    go : (t : Bool) → ((q : Running) → (fed_all q bs).running.position.lines ≤ q.position.lines + length bs)
        → (fed_all (cond t (line_ended r) (line_extended r (b ∷ []))).running bs).running.position.lines ≤ r.position.lines + length (b ∷ bs)
    go true ih = omega (arith, ih (line_ended r).running)
    go false ih = omega (arith, ih (line_extended r (b ∷ [])).running)
