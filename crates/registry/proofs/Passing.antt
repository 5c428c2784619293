-- Check 2 on the list in one pass: along the places by ascending number, and beside it along the records.
-- Assumes nothing.
use Rattle.std.proofs.Common.{◌≡◌, ℕ, ◌+◌, ◌<◌, ◌≤◌, Bool, true, false, not, ◌&&◌, ◌||◌, ltb, leb, List, [], ◌∷◌, length, get_or, drop, sym, refl, ap, ◌∙◌, subst, ap₂, arith, length-drop, drop_of_length-le, length-take, le-ltb, lt-ltb, le-leb, leb-false, leb-true}
use Rattle.window.specs.declared.query.Query.{Query}
use Rattle.window.specs.Lists.{any}
use Rattle.window.specs.Queries.{number_limit, kind_limit, length_limit}
use Rattle.window.specs.Refusals.{within, name_checks, length_checks, field_checks, broken_record}
use Rattle.window.proofs.Lists.{or_left, or_right}
use Rattle.registry.specs.declared.bits.Bits.{Bits}
use Rattle.registry.specs.Records.{record_limit, order_at, list_places, number_at, record_at, used, order, climbs, ordered, list_fits}
use Rattle.registry.specs.Fields.{fields_outside, bits_outside}
use Rattle.registry.proofs.Scans.{any_cons, any_found, any_next, any-ended, found_next, found_last}
use Rattle.registry.proofs.Masks.{or_across}
use Rattle.registry.proofs.Intact.{fits_unordered, fits-broken, fits_whole}
use Rattle.registry.proofs.Ordering.{place-next}
use Rattle.registry.proofs.Greatest.{last_number, is_above, greatest_last}

-- ---- a broken record

-- the query was registered after n
abbrev is_later : ℕ → Query → Bool
is_later n q = ltb n q.origin

-- a record is broken where a field is outside, its number above 65,535, or it was registered after n
broken-parts : (n : ℕ) (q : Query) → broken_record n q ≡ (fields_outside q || (is_above number_limit q || is_later n q))
unfolding field_checks name_checks length_checks fields_outside
broken-parts n q =
    ap (λ (t : Bool). (t || (not (within 1 kind_limit q.kind) || (not (within 1 length_limit q.range) || (not (within 1 length_limit q.slide) || false)))) || is_later n q) number
    ∙ parts (not (within 1 (number_limit + 1) q.number)) (is_above number_limit q) (not (within 1 kind_limit q.kind)) (not (within 1 length_limit q.range)) (not (within 1 length_limit q.slide)) (is_later n q)
  where
    number : not (within 1 number_limit q.number) ≡ (not (within 1 (number_limit + 1) q.number) || is_above number_limit q)
    number = go (leb 1 q.number) (leb q.number number_limit) refl
      where
        go : (s t : Bool) → leb q.number number_limit ≡ t → not (s && t) ≡ (not (s && leb q.number (number_limit + 1)) || is_above number_limit q)
        go false t e = refl
        go true true e =
            let few : q.number ≤ number_limit = leb-true q.number number_limit e in
            rw (le-leb q.number (number_limit + 1) (omega arith), le-ltb number_limit q.number few)
        go true false e = sym (or_right (not (leb q.number (number_limit + 1))) (is_above number_limit q) (lt-ltb number_limit q.number (leb-false q.number number_limit e)))

    parts : (a m b c d o : Bool) → (((a || m) || (b || (c || (d || false)))) || o) ≡ ((a || (b || (c || d))) || (m || o))
    parts true m b c d o = refl
    parts false true b c d o = sym (or_right (b || (c || d)) true refl)
    parts false false true c d o = refl
    parts false false false true d o = refl
    parts false false false false true o = refl
    parts false false false false false o = refl

-- a test of either kind is passed by one of a list where one of the two is
any_or : (p r : Query → Bool) (qs : List Query) → any (λ (q : Query). p q || r q) qs ≡ (any p qs || any r qs)
any_or p r [] = refl
any_or p r (q ∷ qs) = ap (λ (t : Bool). (p q || r q) || t) (any_or p r qs) ∙ or_across (p q) (r q) (any p qs) (any r qs)

any_same : (p r : Query → Bool) → ((q : Query) → p q ≡ r q) → (qs : List Query) → any p qs ≡ any r qs
any_same p r e [] = refl
any_same p r e (q ∷ qs) = ap₂ ◌||◌ (e q) (any_same p r e qs)

-- so for all used records
any-broken : (n : ℕ) (qs : List Query) → any (broken_record n) qs ≡ (any fields_outside qs || (any (is_above number_limit) qs || any (is_later n) qs))
any-broken n qs =
    any_same (broken_record n) (λ (q : Query). fields_outside q || (is_above number_limit q || is_later n q)) (broken-parts n) qs
    ∙ any_or fields_outside (λ (q : Query). is_above number_limit q || is_later n q) qs
    ∙ ap (λ (t : Bool). any fields_outside qs || t) (any_or (is_above number_limit) (is_later n) qs)

-- ---- the pass

-- j places and j records were looked at, with `last` the last number and `bits` those of the fields so far: with these,
-- what is left decides as all does
pub record Passing (n k : ℕ) (l : List ℕ) (last : ℕ) (bits : Bits) (j : ℕ) : Type 0 where
  pub looked : j ≤ k
  pub climb : climbs k last l (drop j (order k l)) ≡ ordered k l
  pub greatest : last_number last l (drop j (order k l)) ≡ last_number 0 l (order k l)
  pub fields : (bits_outside bits || any fields_outside (drop j (used k l))) ≡ any fields_outside (used k l)
  pub origins : any (is_later n) (drop j (used k l)) ≡ any (is_later n) (used k l)

pub passing_start : (n k : ℕ) (l : List ℕ) (bits : Bits) → (bits.number ≡ 0) × ((bits.kind ≡ 0) × ((bits.range ≡ 0) × (bits.slide ≡ 0))) → Passing n k l 0 bits 0
unfolding ordered bits_outside
passing_start n k l bits none =
    record { looked = omega arith; climb = refl; greatest = refl; fields = rw (none.0, none.1.0, none.1.1.0, none.1.1.1); origins = refl }

module _ (n k : ℕ) (l : List ℕ) (last : ℕ) (bits : Bits) (j : ℕ) (h : Passing n k l last bits j) (long : list_places ≤ length l) (few : k ≤ record_limit) where
  -- ---- a turn

  module _ (inside : j < k) where
    -- the place that is looked at
    abbrev place : ℕ
    place = get_or l (order_at + j) 0

    -- what is left are this place and those behind it
    left : drop j (order k l) ≡ place ∷ drop (j + 1) (order k l)
    left = place-next k l j few long inside

    -- it is that of no used record
    pub passing_outside : k ≤ place → false ≡ list_fits n k l
    passing_outside o = fits_unordered n k l few (sym h.climb ∙ ap (climbs k last l) left ∙ rw (le-ltb place k o))

    -- it is that of p
    module _ (placed : place < k) (p : Query) (there : p ≡ record_at l place) where
      number_is : p.number ≡ number_at l place
      number_is = ap (λ (r : Query). r.number) there

      -- whose number is not above the last one
      pub passing_falls : p.number ≤ last → false ≡ list_fits n k l
      passing_falls f = fits_unordered n k l few (sym h.climb ∙ ap (climbs k last l) left ∙ rw (lt-ltb place k placed, le-ltb last (number_at l place) (rw number_is at f)))

      module _ (rises : last < p.number) (q : Query) (read : q ≡ record_at l j) where
        -- the record at j was registered after n
        pub passing_later : n < q.origin → false ≡ list_fits n k l
        passing_later o =
            let later : any (is_later n) (used k l) ≡ true = sym h.origins ∙ any_found k l j inside (is_later n) (lt-ltb n (record_at l j).origin (rw read at o)) in
            fits-broken n k l few
            (any-broken n (used k l) ∙ or_right (any fields_outside (used k l)) (any (is_above number_limit) (used k l) || any (is_later n) (used k l)) (or_right (any (is_above number_limit) (used k l)) (any (is_later n) (used k l)) later))

        -- neither
        pub passing_next : q.origin ≤ n → (next : Bits) → bits_outside next ≡ (bits_outside bits || fields_outside q) → Passing n k l p.number next (j + 1)
        passing_next o next e =
            let climb : climbs k last l (drop j (order k l)) ≡ climbs k (number_at l place) l (drop (j + 1) (order k l)) = ap (climbs k last l) left ∙ rw (lt-ltb place k placed, lt-ltb last (number_at l place) (rw number_is at rises)) in
            let origin : is_later n (record_at l j) ≡ false = le-ltb n (record_at l j).origin (rw read at o) in
            subst (λ (m : ℕ). Passing n k l m next (j + 1)) (sym number_is)
            (record {
              looked = omega arith;
              climb = sym climb ∙ h.climb;
              greatest = sym (ap (last_number last l) left) ∙ h.greatest;
              fields = sym (found_next (bits_outside bits) (fields_outside (record_at l j)) (any fields_outside (drop (j + 1) (used k l))) (any fields_outside (drop j (used k l))) (bits_outside next)
                  (any_cons k l j inside fields_outside) (e ∙ ap (λ (r : Query). bits_outside bits || fields_outside r) read))
                  ∙ h.fields;
              origins = sym (any_next k l j inside (is_later n) origin) ∙ h.origins;
            })

  -- ---- the end

  module _ (ended : k ≤ j) where
    none : drop j (order k l) ≡ []
    none =
        let short : length (order k l) ≤ j = simp (length-take, length-drop) (omega arith) in
        drop_of_length-le (order k l) short

    in_order : ordered k l ≡ true
    in_order = sym h.climb ∙ ap (climbs k last l) none

    above : any (is_above number_limit) (used k l) ≡ ltb number_limit last
    above = greatest_last number_limit k l few long in_order ∙ ap (ltb number_limit) (sym h.greatest ∙ ap (last_number last l) none)

    -- the greatest number is above its limit
    pub passing_above : number_limit < last → false ≡ list_fits n k l
    passing_above a =
        fits-broken n k l few
        (any-broken n (used k l) ∙ or_right (any fields_outside (used k l)) (any (is_above number_limit) (used k l) || any (is_later n) (used k l))
        (or_left (any (is_above number_limit) (used k l)) (any (is_later n) (used k l)) (above ∙ lt-ltb number_limit last a)))

    -- it is not, and the bits decide
    pub passing_done : last ≤ number_limit → not (bits_outside bits) ≡ list_fits n k l
    passing_done a =
        let fields : any fields_outside (used k l) ≡ bits_outside bits = sym h.fields ∙ found_last (bits_outside bits) (any fields_outside (drop j (used k l))) (any-ended k l j ended fields_outside) in
        let numbers : any (is_above number_limit) (used k l) ≡ false = above ∙ le-ltb number_limit last a in
        let origins : any (is_later n) (used k l) ≡ false = sym h.origins ∙ any-ended k l j ended (is_later n) in
        let broken : any (broken_record n) (used k l) ≡ bits_outside bits = any-broken n (used k l) ∙ rw (fields, numbers, origins) (found_last (bits_outside bits) false refl) in
        ap not (sym broken) ∙ fits_whole n k l few in_order
