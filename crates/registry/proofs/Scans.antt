-- The laws of a scan over the used records, place by place: what is left from place i on is the record at i and what is
-- left after it, and so for each test that is taken over them.
-- Assumes nothing.
use Rattle.std.proofs.Common.{◌≡◌, ℕ, ◌+◌, ◌-◌, ◌<◌, ◌≤◌, Bool, true, false, ◌||◌, List, [], ◌∷◌, length, drop, sym, refl, ap, ◌∙◌, subst, arith}
use Rattle.window.specs.declared.query.Query.{Query}
use Rattle.window.specs.Lists.{filter, any, Each}
use Rattle.window.specs.Queries.{due}
use Rattle.window.specs.Refusals.{due_at}
use Rattle.window.proofs.Lists.{length-filter}
use Rattle.registry.specs.Records.{tabulate, record_at, used}
use Rattle.registry.proofs.Tabulating.{drop-tabulate, tabulate-next, tabulate-ended, tabulated_at}
use Rattle.registry.proofs.Intact.{used-count}

-- counted from the first place, i is i
from_first : (i : ℕ) → 0 + i ≡ i
from_first i = omega arith

-- what is left are the records from place i on
rest_is : (k : ℕ) (l : List ℕ) (i : ℕ) → drop i (used k l) ≡ tabulate (record_at l) i (k - i)
rest_is k l i = drop-tabulate (record_at l) 0 k i ∙ ap (λ (j : ℕ). tabulate (record_at l) j (k - i)) (from_first i)

module _ (k : ℕ) (l : List ℕ) (i : ℕ) where
  -- ---- a place that is not the end

  module _ (inside : i < k) where
    -- what is left is the record at i and what is left after it
    pub rest_cons : drop i (used k l) ≡ record_at l i ∷ drop (i + 1) (used k l)
    rest_cons = rest_is k l i ∙ tabulate-next (record_at l) i k inside ∙ ap (λ (qs : List Query). record_at l i ∷ qs) (sym (rest_is k l (i + 1)))

    -- P of every record of the scan holds of the one at i
    pub each_at : (P : Query → Type 0) → Each P (used k l) → P (record_at l i)
    each_at P h = subst (λ (j : ℕ). P (record_at l j)) (from_first i) (tabulated_at P (record_at l) 0 k i inside h)

    module _ (p : Query → Bool) where
      -- some record of those left passes a test where the one at i does, or one after it
      pub any_cons : any p (drop i (used k l)) ≡ (p (record_at l i) || any p (drop (i + 1) (used k l)))
      any_cons = ap (any p) rest_cons

      -- a test that the record at i passes is passed by one of those left
      pub any_found : p (record_at l i) ≡ true → any p (drop i (used k l)) ≡ true
      any_found e = any_cons ∙ rw e

      -- one that it fails is passed by one of those left where it is by one after it
      pub any_next : p (record_at l i) ≡ false → any p (drop i (used k l)) ≡ any p (drop (i + 1) (used k l))
      any_next e = any_cons ∙ rw e

      -- those left that pass begin with the record at i where it passes
      pub filter_passed : p (record_at l i) ≡ true → filter p (drop i (used k l)) ≡ record_at l i ∷ filter p (drop (i + 1) (used k l))
      filter_passed e = ap (filter p) rest_cons ∙ rw e

      -- and are those after it where it fails
      pub filter-failed : p (record_at l i) ≡ false → filter p (drop i (used k l)) ≡ filter p (drop (i + 1) (used k l))
      filter-failed e = ap (filter p) rest_cons ∙ rw e

  -- ---- the end

  module _ (ended : k ≤ i) where
    -- nothing is left
    pub rest_ended : drop i (used k l) ≡ []
    rest_ended = rest_is k l i ∙ tabulate-ended (record_at l) i k ended

    module _ (p : Query → Bool) where
      -- and none of it passes a test
      pub any-ended : any p (drop i (used k l)) ≡ false
      any-ended = ap (any p) rest_ended

      -- nor is any of it kept
      pub filter-ended : filter p (drop i (used k l)) ≡ []
      filter-ended = ap (filter p) rest_ended

-- ---- a test with what was found so far, and no early exit

-- what was found, or is found in what is left, one record on
pub found_next : (found now rest whole next : Bool) → whole ≡ (now || rest) → next ≡ (found || now) → (found || whole) ≡ (next || rest)
found_next true now rest whole next e f = cc
found_next false now rest whole next e f = cc

-- and where nothing is left
pub found_last : (found whole : Bool) → whole ≡ false → (found || whole) ≡ found
found_last true whole e = refl
found_last false whole e = e

-- ---- a count

-- no more are due than there are
pub due_few : (n k : ℕ) (l : List ℕ) → length (due_at n (used k l)) ≤ k
due_few n k l = omega (arith, length-filter (due n) (used k l), used-count k l)
