-- Standing partials, the content of a monotonic deque, and the comparisons of a closing. For maxima `below` is "at
-- most" (`le_z`), for minima "at least" (`ge_z`); "greater" in the comments is by that order.
-- Assumes nothing.
use Rattle.std.specs.Prelude.{ℕ, ◌+◌, Bool, not, cond, List, [], ◌∷◌, length}
use Rattle.window.specs.Lists.{filter, all}
use Rattle.window.specs.Partials.{Entry, live}

module _ {A : Type 0} (below : A → A → Bool) where
  -- x is at most y
  abbrev pub at_most : Entry A → Entry A → Bool
  at_most x y = below x.value y.value

  -- x is strictly greater than y
  abbrev pub exceeds : Entry A → Entry A → Bool
  exceeds x y = not (at_most x y)

  -- standing: those whose value is strictly greater than that of every later one, oldest first
  abbrev pub standing : List (Entry A) → List (Entry A)
  standing [] = []
  standing (x ∷ later) = cond (all (exceeds x) later) (x ∷ standing later) (standing later)

-- 1 where there is an element, and 0 where there is none
abbrev pub one_if_any : {A : Type 0} → List A → ℕ
one_if_any [] = 0
one_if_any (x ∷ xs) = 1

-- the comparisons of the closing of y, with xs standing: one for each standing one that is at most y, and one more if
-- any standing one is left
abbrev pub comparisons : {A : Type 0} → (A → A → Bool) → List (Entry A) → Entry A → ℕ
comparisons {A} below xs y =
    length (filter (λ (x : Entry A). at_most below x y) xs) + one_if_any (filter (λ (x : Entry A). exceeds below x y) xs)

-- ---- at the front; the model does without, the rings and the laws do not

-- the value of the first entry; `none` for the empty list. The first standing partial of a window has its maximum
abbrev pub front_of : {A : Type 0} → A → List (Entry A) → A
front_of none [] = none
front_of none (x ∷ xs) = x.value

-- the entries left when those at the front that start before h are evicted, one after the other; where starts never
-- fall these are all that start at h or later
abbrev pub evicted : {A : Type 0} → ℕ → List (Entry A) → List (Entry A)
evicted h [] = []
evicted h (x ∷ xs) = cond (live h x.start) (x ∷ xs) (evicted h xs)
