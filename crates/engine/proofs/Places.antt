-- Laws of answers: their places in the answer table, and the value of a window by the kind of its query.
-- Assumes nothing.
use Prim.Native.Nat.{ℕ, suc, ◌+◌, ◌*◌, ◌≤◌}
use mathlib.Core.Path.{◌≡◌, refl, sym, ap, ◌∙◌}
use mathlib.Core.List.{List, [], ◌∷◌, ◌++◌, map, append_assoc, append-nil}
use native.Mathlib.Omega.{arith}
use lib.IntN.{ℤ, pos}
use lib.ListN.{length, take, drop, set, length-append, length-drop}
use lib.Seq.{sets-eq, take_at, drop-append-add, drop-drop}
use Rattle.window.specs.declared.query.Query.{Query}
use Rattle.window.specs.Refusals.{answer_places}
use Rattle.window.specs.Calls.{Answer}
use Rattle.engine.specs.Answers.{answer_with, places_of, places, put_at, answered_places}

-- ---- the places of an answer

-- four stores from a place on write a list of four there
pub four_stored : {A : Type 0} (t : List A) (at : ℕ) (a b c d : A) → at + 4 ≤ length t
    → set (set (set (set t at a) (at + 1) b) (at + 2) c) (at + 3) d ≡ take at t ++ ((a ∷ b ∷ c ∷ d ∷ []) ++ drop (at + 4) t)
four_stored t at a b c d h =
    let one : at + 1 ≡ suc at = omega arith in
    let two : at + 2 ≡ suc (suc at) = omega arith in
    let three : at + 3 ≡ suc (suc (suc at)) = omega arith in
    rw (one, two, three) (sets-eq (a ∷ b ∷ c ∷ d ∷ []) t at h ∙ append_assoc (take at t) (a ∷ b ∷ c ∷ d ∷ []) (drop (at + 4) t))

-- stores of the numbers of an answer, as the machine has them, write it
pub answer_stored : (t : List ℤ) (at : ℕ) (q : Query) (count : ℕ) (value : ℤ) {a b c d : ℤ} → at + 4 ≤ length t
    → a ≡ pos q.number → b ≡ pos q.kind → c ≡ pos count → d ≡ value
    → set (set (set (set t at a) (at + 1) b) (at + 2) c) (at + 3) d ≡ put_at at (answer_with q count value) t
answer_stored t at q count value h e f g i = rw (e, f, g, i) (four_stored t at (pos q.number) (pos q.kind) (pos count) value h)

-- ---- the places of several answers

-- four places an answer
pub places-length : (given : List Answer) → length (places given) ≡ answer_places * length given
places-length [] = refl
places-length (a ∷ more) = omega (arith, length-append (places_of a) (places more), places-length more)

-- with one answer more at the end, its places come last
places-more : (given : List Answer) (a : Answer) → places (given ++ (a ∷ [])) ≡ places given ++ places_of a
places-more [] a = refl
places-more (b ∷ more) a = ap (λ (r : List ℤ). places_of b ++ r) (places-more more a)

-- a table with answers that fit is as long as it was
answered-length : (given : List Answer) (t : List ℤ) → answer_places * length given ≤ length t → length (answered_places given t) ≡ length t
answered-length given t h =
    omega (arith, length-append (places given) (drop (answer_places * length given) t), places-length given, length-drop (answer_places * length given) t)

-- an answer written after those given is one answer more
answered-more : (given : List Answer) (a : Answer) (t : List ℤ) → put_at (answer_places * length given) a (answered_places given t) ≡ answered_places (given ++ (a ∷ [])) t
answered-more given a t =
    let k : ℕ = answer_places * length given in
    let ends : answer_places * length (given ++ (a ∷ [])) ≡ k + answer_places = omega (arith, length-append given (a ∷ [])) in
    let front : take k (places given ++ drop k t) ≡ places given = take_at (places given) (drop k t) k (places-length given) in
    let back : drop (k + answer_places) (places given ++ drop k t) ≡ drop (k + answer_places) t =
    ap (λ (j : ℕ). drop (j + answer_places) (places given ++ drop k t)) (sym (places-length given))
    ∙ drop-append-add (places given) (drop k t) answer_places
    ∙ drop-drop answer_places k t in
    ap (λ (r : List ℤ). r ++ (places_of a ++ drop (k + answer_places) (places given ++ drop k t))) front
    ∙ ap (λ (r : List ℤ). places given ++ (places_of a ++ r)) back
    ∙ sym (append_assoc (places given) (places_of a) (drop (k + answer_places) t))
    ∙ ap (λ (r : List ℤ). r ++ drop (k + answer_places) t) (sym (places-more given a))
    ∙ ap (λ (j : ℕ). places (given ++ (a ∷ [])) ++ drop j t) (sym ends)

-- ---- answers to the first of the due queries

-- with k of the due queries answered and `left` to come: the answer table, which held `before`, holds the answers so
-- far, and these are the first k of those from the rings
pub record AnsweredTo {X : Type 0} (answer : X → Query → Answer) (due left : List Query) (before now : List ℤ) (k : ℕ) : Type 0 where
  pub given : List Answer
  pub number : length given ≡ k
  pub written : now ≡ answered_places given before
  pub counted : k + length left ≡ length due
  pub answers : (x : X) → given ++ map (answer x) left ≡ map (answer x) due

module _ {X : Type 0} (answer : X → Query → Answer) (due : List Query) (before : List ℤ) where
  module _ (now : List ℤ) (k : ℕ) (room : answer_places * length due ≤ length before) where
    -- the table is as long as it was
    pub answered-kept : (left : List Query) → AnsweredTo answer due left before now k → length now ≡ length before
    answered-kept left a =
        ap length a.written
        ∙ answered-length a.given before (within (length a.given) k (length left) (length due) (length before) a.number a.counted room)
      where
        within : (g k l d n : ℕ) → g ≡ k → k + l ≡ d → answer_places * d ≤ n → answer_places * g ≤ n
        within g k l d n e f h = omega arith

    module _ (q : Query) (left : List Query) (a : AnsweredTo answer due (q ∷ left) before now k) where
      -- there is room for the answer to a query that is to come
      pub answered-room : answer_places * k + answer_places ≤ length now
      answered-room = within k (length left) (length due) (length before) (length now) a.counted room (answered-kept (q ∷ left) a)
        where
          within : (k l d n m : ℕ) → k + suc l ≡ d → answer_places * d ≤ n → m ≡ n → answer_places * k + answer_places ≤ m
          within k l d n m e h f = omega arith

      -- the answer to the next of them is written
      pub answered-next : (b : Answer) (after : List ℤ) → ((x : X) → b ≡ answer x q) → after ≡ put_at (answer_places * k) b now → AnsweredTo answer due left before after (k + 1)
      answered-next b after f w =
          let g : List Answer = a.given in
          record {
            given = g ++ (b ∷ []);
            number = length-append g (b ∷ []) ∙ ap (λ (j : ℕ). j + 1) a.number;
            written = w
                ∙ ap (λ (j : ℕ). put_at (answer_places * j) b now) (sym a.number)
                ∙ ap (put_at (answer_places * length g) b) a.written
                ∙ answered-more g b before;
            counted = one_on k (length left) (length due) a.counted;
            answers = λ x.
                append_assoc g (b ∷ []) (map (answer x) left)
                ∙ ap (λ (y : Answer). g ++ (y ∷ map (answer x) left)) (f x)
                ∙ a.answers x;
          }
        where
          one_on : (k l d : ℕ) → k + suc l ≡ d → (k + 1) + l ≡ d
          one_on k l d e = omega arith

  -- all are answered at the end
  pub answered-all : (now : List ℤ) (k : ℕ) → (a : AnsweredTo answer due [] before now k) → (k ≡ length due) × ((x : X) → a.given ≡ map (answer x) due)
  answered-all now k a = (omega (arith, a.counted), λ x. sym (append-nil a.given) ∙ a.answers x)
