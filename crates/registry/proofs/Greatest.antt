-- The last number along the places by ascending number is the greatest of all used records.
-- Assumes nothing.
use Rattle.std.proofs.Common.{◌≡◌, ℕ, suc, ◌+◌, ◌<◌, ◌≤◌, Bool, true, false, ltb, List, [], ◌∷◌, length, refl, arith, ltb-false, ltb-true, lt-ltb}
use Rattle.window.specs.declared.query.Query.{Query}
use Rattle.window.specs.Lists.{any, Each}
use Rattle.window.specs.Refusals.{is_registered}
use Rattle.window.proofs.Lists.{or_neither}
use Rattle.registry.specs.Records.{record_limit, list_places, number_at, record_at, used, order, ordered}
use Rattle.registry.proofs.Tabulating.{length-tabulate, each_tabulate, any-tabulate}
use Rattle.registry.proofs.Ordering.{order-length, Climbs, climbs_true, climbs-few, Spare, spare_one, registered_in_lem}

-- the number at the last of these places, or `last` where there is none
abbrev pub last_number : (last : ℕ) → List ℕ → List ℕ → ℕ
last_number last l [] = last
last_number last l (p ∷ ps) = last_number (number_at l p) l ps

-- the query has a number above m
abbrev pub is_above : ℕ → Query → Bool
is_above m q = ltb m q.number

module _ (k : ℕ) (l : List ℕ) where
  -- P of the last number, where it holds of the number at each place
  last_has : (P : ℕ → Type 0) → ((p : ℕ) → p < k → P (number_at l p)) → (last : ℕ) (ps : List ℕ) → P last → Climbs k last l ps → P (last_number last l ps)
  last_has P f last [] h c = h
  last_has P f last (p ∷ ps) h c = last_has P f (number_at l p) ps (f p c.0) c.2

  -- numbers that ascend are at most the last
  last_from : (last : ℕ) (ps : List ℕ) → Climbs k last l ps → last ≤ last_number last l ps
  last_from last [] c = omega arith
  last_from last (p ∷ ps) c = omega (arith, c.1, last_from (number_at l p) ps c.2)

-- so where a number is above it, the queries with others can spare one
spared : (m : ℕ) (k x last : ℕ) (l ps : List ℕ) (s : Spare (λ (z : ℕ). z ≡ x → ⊥) (used k l)) → last_number last l ps ≤ m → m < x → Climbs k last l ps
    → Each (λ (p : ℕ). is_registered (number_at l p) s.0 ≡ true) ps
spared m k x last l [] s h a c = tt
spared m k x last l (p ∷ ps) s h a c =
    let most : number_at l p ≤ last_number (number_at l p) l ps = last_from k l (number_at l p) ps c.2 in
    (s.1.1 (number_at l p) (λ e. omega arith) (registered_in_lem k l p c.0), spared m k x (number_at l p) l ps s h a c.2)

none_each : (p : Query → Bool) (qs : List Query) → Each (λ (q : Query). p q ≡ false) qs → any p qs ≡ false
none_each p [] h = refl
none_each p (q ∷ qs) h = or_neither (p q) (any p qs) h.0 (none_each p qs h.1)

-- one of the used records has a number above m exactly where the last one is
pub greatest_last : (m k : ℕ) (l : List ℕ) → k ≤ record_limit → list_places ≤ length l → ordered k l ≡ true → any (is_above m) (used k l) ≡ ltb m (last_number 0 l (order k l))
unfolding ordered
greatest_last m k l few long h = go (ltb m (last_number 0 l (order k l))) refl
  where
    climbing : Climbs k 0 l (order k l)
    climbing = climbs_true k 0 l (order k l) h

    found : (p : ℕ) → p < k → m < number_at l p → any (is_above m) (used k l) ≡ true
    found p b a = any-tabulate (is_above m) (record_at l) 0 k p b (lt-ltb m (number_at l (0 + p)) (rw is a))
      where
        is : 0 + p ≡ p
        is = omega arith

    none : last_number 0 l (order k l) ≤ m → (p : ℕ) → p < k → (b : Bool) → ltb m (number_at l p) ≡ b → b ≡ false
    none most p i false e = refl
    none most p i true e =
        let a : m < number_at l p = ltb-true m (number_at l p) e in
        let s : Spare (λ (z : ℕ). z ≡ number_at l p → ⊥) (used k l) = spare_one (number_at l p) (used k l) (registered_in_lem k l p i) in
        let fewer : length (order k l) ≤ length s.0 = climbs-few k 0 l (order k l) s.0 climbing (spared m k (number_at l p) 0 l (order k l) s most a climbing) in
        let one : length (used k l) ≡ suc (length s.0) = s.1.0 in
        absurd (omega (arith, order-length k l few long, length-tabulate (record_at l) 0 k))

    go : (b : Bool) → ltb m (last_number 0 l (order k l)) ≡ b → any (is_above m) (used k l) ≡ b
    go true e = last_has k l (λ (x : ℕ). m < x → any (is_above m) (used k l) ≡ true) found 0 (order k l) (λ a. absurd (omega arith)) climbing (ltb-true m (last_number 0 l (order k l)) e)
    go false e =
        none_each (is_above m) (used k l)
        (each_tabulate (λ (q : Query). is_above m q ≡ false) (record_at l) 0 k (λ j a b. none (ltb-false m (last_number 0 l (order k l)) e) j (omega arith) (ltb m (number_at l j)) refl))
