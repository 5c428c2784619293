-- Lists under a test, and a fact of every element.
-- Assumes nothing.
use Rattle.std.specs.Prelude.{Bool, true, false, ◌&&◌, ◌||◌, cond, List, [], ◌∷◌, ◌++◌}

module _ {A : Type 0} where
  -- the elements that pass the test, in their order
  abbrev pub filter : (A → Bool) → List A → List A
  filter p [] = []
  filter p (x ∷ xs) = cond (p x) (x ∷ filter p xs) (filter p xs)

  abbrev pub all : (A → Bool) → List A → Bool
  all p [] = true
  all p (x ∷ xs) = p x && all p xs

  abbrev pub any : (A → Bool) → List A → Bool
  any p [] = false
  any p (x ∷ xs) = p x || any p xs

  -- the lists one after the other; laws use it to say that partials make up a window, and the cases of `session` to put
  -- lines together
  abbrev pub joined : List (List A) → List A
  joined [] = []
  joined (xs ∷ more) = xs ++ joined more

  -- P of every element; the model does without it, premises, invariants and laws do not
  abbrev pub Each : (A → Type 0) → List A → Type 0
  Each P [] = Unit {0}
  Each P (x ∷ xs) = P x × Each P xs
