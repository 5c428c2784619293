-- What holds of a list of queries that passes check 2, how many records are used, and what the check comes to: the laws
-- that the calls lean on.
-- Assumes nothing.
use Rattle.std.proofs.Common.{◌≡◌, ℕ, ◌+◌, ◌<◌, ◌≤◌, Bool, true, false, not, ◌&&◌, ◌||◌, ltb, leb, List, [], ◌∷◌, length, sym, refl, ap, ◌∙◌, subst, arith, ltb-false, le-ltb, le-leb, leb-true}
use borrow.Author.Tests.{not-true}
use Rattle.window.specs.declared.query.Query.{Query}
use Rattle.window.specs.Lists.{any, Each}
use Rattle.window.specs.Queries.{Limits, query_limit}
use Rattle.window.specs.Refusals.{applying, field_checks, broken_record, shared_number, damaged}
use Rattle.window.proofs.Lists.{and_left, and_right, not_left, not_right}
use Rattle.window.proofs.Refusals.{any_passed, fields_passed}
use Rattle.registry.specs.Records.{record_limit, record_at, used, ordered, list_fits}
use Rattle.registry.proofs.Tabulating.{length-tabulate, tabulated_at}

-- ---- the count of the used records

-- as many as is said
pub used-count : (k : ℕ) (l : List ℕ) → length (used k l) ≡ k
used-count k l = length-tabulate (record_at l) 0 k

-- ---- a record that is not broken

-- its fields are within their limits
sound_limits : (n : ℕ) (q : Query) → broken_record n q ≡ false → Limits q
sound_limits n q h =
    fields_passed q (any_passed (field_checks q.number q.kind q.range q.slide) (not_left (any applying (field_checks q.number q.kind q.range q.slide)) (ltb n q.origin) h))

-- it was registered at n or before
sound_origin : (n : ℕ) (q : Query) → broken_record n q ≡ false → q.origin ≤ n
sound_origin n q h = ltb-false n q.origin (not_right (any applying (field_checks q.number q.kind q.range q.slide)) (ltb n q.origin) h)

-- where no record is broken, P of each that a record has that is not broken
sound_each : (P : Query → Type 0) (n : ℕ) → ((q : Query) → broken_record n q ≡ false → P q) → (qs : List Query) → any (broken_record n) qs ≡ false → Each P qs
sound_each P n f [] h = tt
sound_each P n f (q ∷ qs) h = (f q (not_left (broken_record n q) (any (broken_record n) qs) h), sound_each P n f qs (not_right (broken_record n q) (any (broken_record n) qs) h))

module _ (n k : ℕ) (l : List ℕ) where
  -- ---- a list that passes check 2

  module _ (h : list_fits n k l ≡ true) where
    -- at most 32 of its records are used
    pub fits-few : k ≤ record_limit
    unfolding list_fits
    fits-few = leb-true k record_limit (and_left (leb k record_limit) (ordered k l && not (any (broken_record n) (used k l))) h)

    -- their places are in order
    pub fits-ordered : ordered k l ≡ true
    unfolding list_fits
    fits-ordered = and_left (ordered k l) (not (any (broken_record n) (used k l))) (and_right (leb k record_limit) (ordered k l && not (any (broken_record n) (used k l))) h)

    -- and none is broken
    fits_sound : any (broken_record n) (used k l) ≡ false
    unfolding list_fits
    fits_sound =
        not-true (any (broken_record n) (used k l)) (and_right (ordered k l) (not (any (broken_record n) (used k l))) (and_right (leb k record_limit) (ordered k l && not (any (broken_record n) (used k l))) h))

    -- the fields of its used records are within their limits
    pub fits-limits : Each Limits (used k l)
    fits-limits = sound_each Limits n (sound_limits n) (used k l) fits_sound

    -- so are those of each
    pub fits_limits_at : (i : ℕ) → i < k → Limits (record_at l i)
    fits_limits_at i inside = subst (λ (j : ℕ). Limits (record_at l j)) is (tabulated_at Limits (record_at l) 0 k i inside fits-limits)
      where
        is : 0 + i ≡ i
        is = omega arith

    -- its used records were registered at n or before
    pub fits_origins : Each (λ (q : Query). q.origin ≤ n) (used k l)
    fits_origins = sound_each (λ (q : Query). q.origin ≤ n) n (sound_origin n) (used k l) fits_sound

  -- where no two of its used records share a number, it is not damaged
  pub fits-intact : shared_number (used k l) ≡ false → list_fits n k l ≡ true → damaged n k (used k l) ≡ false
  unfolding damaged
  fits-intact s h = rw (le-ltb query_limit k (fits-few h), fits_sound h, s)

  -- ---- what the check comes to

  module _ (few : k ≤ record_limit) where
    -- places that are not in order
    pub fits_unordered : ordered k l ≡ false → false ≡ list_fits n k l
    unfolding list_fits
    fits_unordered o = rw (le-leb k record_limit few, o)

    -- a broken record
    pub fits-broken : any (broken_record n) (used k l) ≡ true → false ≡ list_fits n k l
    unfolding list_fits
    fits-broken b = rw (le-leb k record_limit few, b) (neither (ordered k l))
      where
        neither : (o : Bool) → false ≡ (o && false)
        neither true = refl
        neither false = refl

    -- where they are, no record may be broken
    pub fits_whole : ordered k l ≡ true → not (any (broken_record n) (used k l)) ≡ list_fits n k l
    unfolding list_fits
    fits_whole o = rw (le-leb k record_limit few, o)

  -- a list that is not damaged passes where its places are in order
  pub intact-fits : ordered k l ≡ true → damaged n k (used k l) ≡ false → list_fits n k l ≡ true
  unfolding damaged
  intact-fits o d =
      let whole : (any (broken_record n) (used k l) || shared_number (used k l)) ≡ false = not_right (ltb query_limit k) (any (broken_record n) (used k l) || shared_number (used k l)) d in
      sym (fits_whole (ltb-false query_limit k (not_left (ltb query_limit k) (any (broken_record n) (used k l) || shared_number (used k l)) d)) o)
      ∙ ap not (not_left (any (broken_record n) (used k l)) (shared_number (used k l)) whole)
