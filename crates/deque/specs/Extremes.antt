-- The monotonic deque of one order: the entries that it holds, and what a closing makes of them.
-- Assumes nothing.
use Rattle.std.specs.Prelude.{ℕ, ◌+◌, ◌-◌, Bool, cond, List, [], ◌∷◌, ℤ, pos, length, get_or}
use Rattle.std.specs.Int.Signed.{le_z}
use Rattle.window.specs.Lists.{all}
use Rattle.window.specs.Orders.{ge_z}
use Rattle.window.specs.Partials.{Entry}
use Rattle.window.specs.Standing.{at_most, one_if_any}
use Rattle.deque.specs.declared.compare.Extreme.{Extreme}
use Rattle.deque.specs.declared.compare.Extreme.TheVariants.{Maximum, Minimum}
use Rattle.deque.specs.declared.ring.Ring.{Ring}
use Rattle.deque.specs.Rings.{view, entry_with, start_at, appended}

-- the order of maxima is "at most", that of minima "at least"
abbrev pub order_of : Extreme → ℤ → ℤ → Bool
order_of Maximum = le_z
order_of Minimum = ge_z

-- what stands at a place of the tables of starts and values
abbrev pub entry_at : List ℕ → List ℤ → ℕ → Entry ℤ
entry_at starts values p = entry_with (start_at starts p) (get_or values p (pos 0))

-- the entries that a ring holds on tables of starts and values, oldest first
abbrev pub entries_of : List ℕ → List ℤ → Ring → List (Entry ℤ)
entries_of starts values r = view (entry_at starts values) r

module _ {A : Type 0} (below : A → A → Bool) (y : Entry A) where
  -- the entries left when those at the end that are at most y are dropped, one after the other
  unfoldable pub trimmed : List (Entry A) → List (Entry A)
  trimmed [] = []
  trimmed (x ∷ xs) = cond (all (λ (z : Entry A). at_most below z y) (x ∷ xs)) [] (x ∷ trimmed xs)

  -- what that costs (document 01: what a closing adds to M or N): one comparison for each that is dropped, and one more
  -- if any is left
  abbrev pub trim_comparisons : List (Entry A) → ℕ
  trim_comparisons xs = (length xs - length (trimmed xs)) + one_if_any (trimmed xs)

  -- the closing of y: of what eviction left, the entries at the end that are at most y are dropped, and y joins the end
  abbrev pub closed_with : List (Entry A) → List (Entry A)
  closed_with xs = appended y (trimmed xs)
