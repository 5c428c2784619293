-- What a query that joins the list, one that leaves it, and a list that is emptied make of its numbers.
-- Assumes nothing.
use Rattle.std.specs.Prelude.{◌≡◌, ℕ, ◌+◌, ◌<◌, ◌≤◌, true, false, not, List, [], ◌∷◌, ◌++◌}
use Rattle.window.specs.declared.query.Query.{Query}
use Rattle.window.specs.Lists.{filter, Each}
use Rattle.window.specs.Refusals.{has_number, is_registered, shared_number}
use Rattle.registry.specs.Records.{record_limit, record_at, used, with_record, order, ordered, inserted, Tidy, ListKept}

-- each of the places by ascending number is that of one of the first k records
abbrev pub PlacesIn : ℕ → List ℕ → Type 0
PlacesIn k l = Each (λ (p : ℕ). p < k) (order k l)

-- the list with q behind the first k records
unfoldable pub appended : ℕ → Query → List ℕ → List ℕ
appended k q l = inserted k (with_record k q l)

-- what comes of it: the used records are those before and q, the records after it are as they were, and the places stay
-- in order where q has a number of its own
pub record Appended (k : ℕ) (q : Query) (l l' : List ℕ) : Type 0 where
  pub queries : used (k + 1) l' ≡ used k l ++ (q ∷ [])
  pub later : (i : ℕ) → k < i → i < record_limit → record_at l' i ≡ record_at l i
  pub places : PlacesIn (k + 1) l'
  pub in_order : ordered k l ≡ true → 0 < q.number → is_registered q.number (used k l) ≡ false → ordered (k + 1) l' ≡ true
  pub tidy : Tidy k l → Tidy (k + 1) l'
  pub kept : ListKept l l'

-- the list with k queries became one with r, from which the queries with this number left: the others keep their order,
-- and what they leave is 0
pub record Withdrawn (number k : ℕ) (l : List ℕ) (r : ℕ) (l' : List ℕ) : Type 0 where
  pub few : r ≤ k
  pub queries : used r l' ≡ filter (λ (q : Query). not (has_number number q)) (used k l)
  pub in_order : shared_number (used k l) ≡ false → Each (λ (q : Query). 0 < q.number) (used k l) → ordered r l' ≡ true
  pub tidy : Tidy r l'
  pub kept : ListKept l l'

-- the records and places from the k-th on became 0, and the others are as they were
pub record Cleared (k : ℕ) (l l' : List ℕ) : Type 0 where
  pub queries : used k l' ≡ used k l
  pub places : order k l' ≡ order k l
  pub tidy : Tidy k l'
  pub kept : ListKept l l'
