-- The laws of the places by ascending number: how far a search along them is, what they are with one more, that they
-- stay in order, and that no number is shared along them.
-- Assumes nothing.
use Rattle.std.proofs.Common.{◌≡◌, ℕ, zero, suc, ◌+◌, ◌<◌, ◌≤◌, Bool, true, false, cond, ◌&&◌, ◌||◌, eqb, ltb, List, [], ◌∷◌, ◌++◌, length, get_or, take, drop, sym, refl, ap, ◌∙◌, subst, add-one, arith, length-append, length-drop, take-append-drop, length-take-le, get_or-drop, drop-cons, get_or-take, ltb-false, ltb-true, lt-ltb, eq-eqb, ne_eqb, eqb-true}
use borrow.Author.Tests.{eqb-false}
use Rattle.std.specs.List.{prefix_len}
use Rattle.window.specs.declared.query.Query.{Query}
use Rattle.window.specs.Lists.{Each}
use Rattle.window.specs.Refusals.{has_number, is_registered, shared_number}
use Rattle.window.proofs.Lists.{and_left, and_right, each_map, each_append, each_take, each_drop, or_left, or_right}
use Rattle.registry.specs.Records.{record_limit, order_at, list_places, number_at, record_at, used, order, climbs, ordered, rank, with_place}
use Rattle.registry.specs.Edits.{PlacesIn}
use Rattle.registry.proofs.Tabulating.{length-tabulate, tabulated_same, any-tabulate, none_tabulated}

-- ---- a place

pub order-length : (k : ℕ) (l : List ℕ) → k ≤ record_limit → list_places ≤ length l → length (order k l) ≡ k
order-length k l c w = length-take-le k (drop order_at l) (rw (length-drop order_at l) (omega arith))

-- the places from j on are the one at j and those behind it
pub place-next : (k : ℕ) (l : List ℕ) (j : ℕ) → k ≤ record_limit → list_places ≤ length l → j < k
    → drop j (order k l) ≡ get_or l (order_at + j) 0 ∷ drop (j + 1) (order k l)
place-next k l j c w h =
    drop-cons (order k l) j 0 (rw (order-length k l c w) h)
    ∙ rw (get_or-take k (drop order_at l) j 0 h, get_or-drop order_at l j 0, add-one j)

-- each is that of a used record
pub place_at : (k j p : ℕ) (ps : List ℕ) → j < length ps → p ≡ get_or ps j p → Each (λ (i : ℕ). i < k) ps → p < k
place_at k j p [] h e is = absurd (omega arith)
place_at k zero p (i ∷ ps) h e is = omega (arith, is.0)
place_at k (suc j) p (i ∷ ps) h e is = place_at k j p ps (omega arith) e is.1

-- ---- the search for a number's rank

-- it is how many numbers are less from the first on
pub rank_counts : (number : ℕ) (l ps : List ℕ) → rank number l ps ≡ prefix_len (λ (p : ℕ). ltb (number_at l p) number) ps
rank_counts number l [] = refl
rank_counts number l (p ∷ ps) = ap (λ (n : ℕ). cond (ltb (number_at l p) number) n 0) (omega (arith, rank_counts number l ps))

-- ---- one place more

-- the places with one more behind the first r
abbrev pub with_place_at : (p r : ℕ) → List ℕ → List ℕ
with_place_at p r ps = take r ps ++ p ∷ drop r ps

pub length-with_place : (p r : ℕ) (ps : List ℕ) → length (with_place_at p r ps) ≡ suc (length ps)
length-with_place p r ps = length-append (take r ps) (p ∷ drop r ps) ∙ omega (arith, length-append (take r ps) (drop r ps), ap length (take-append-drop r ps))

each_with_place : (P : ℕ → Type 0) (p r : ℕ) (ps : List ℕ) → P p → Each P ps → Each P (with_place_at p r ps)
each_with_place P p r ps h hs = each_append P (take r ps) (p ∷ drop r ps) (each_take P r ps hs) (h, each_drop P r ps hs)

-- each of them is that of one of one record more
pub places-more : (k : ℕ) (l m : List ℕ) → PlacesIn k l → Each (λ (p : ℕ). p < k + 1) (with_place k m (order k l))
places-more k l m h =
    each_with_place (λ (p : ℕ). p < k + 1) k (rank (number_at m k) m (order k l)) (order k l) (omega arith)
    (each_map (λ (p : ℕ). p < k) (λ (p : ℕ). p < k + 1) (λ p b. omega arith) (order k l) h)

-- ---- numbers that ascend

-- what `climbs` says, as orders
abbrev pub Climbs : (k last : ℕ) → List ℕ → List ℕ → Type 0
Climbs k last l [] = Unit {0}
Climbs k last l (p ∷ ps) = (p < k) × (last < number_at l p) × Climbs k (number_at l p) l ps

pub climbs_true : (k last : ℕ) (l ps : List ℕ) → climbs k last l ps ≡ true → Climbs k last l ps
climbs_true k last l [] e = tt
climbs_true k last l (p ∷ ps) e =
    let more : (ltb last (number_at l p) && climbs k (number_at l p) l ps) ≡ true = and_right (ltb p k) (ltb last (number_at l p) && climbs k (number_at l p) l ps) e in (
      ltb-true p k (and_left (ltb p k) (ltb last (number_at l p) && climbs k (number_at l p) l ps) e),
      ltb-true last (number_at l p) (and_left (ltb last (number_at l p)) (climbs k (number_at l p) l ps) more),
      climbs_true k (number_at l p) l ps (and_right (ltb last (number_at l p)) (climbs k (number_at l p) l ps) more),
    )

true_climbs : (k last : ℕ) (l ps : List ℕ) → Climbs k last l ps → climbs k last l ps ≡ true
true_climbs k last l [] h = refl
true_climbs k last l (p ∷ ps) h = rw (lt-ltb p k h.0, lt-ltb last (number_at l p) h.1) (true_climbs k (number_at l p) l ps h.2)

-- each place is below k
climbs_in : (k last : ℕ) (l ps : List ℕ) → Climbs k last l ps → Each (λ (p : ℕ). p < k) ps
climbs_in k last l [] h = tt
climbs_in k last l (p ∷ ps) h = (h.0, climbs_in k (number_at l p) l ps h.2)

-- each number is above `last`
climbs-above : (k last : ℕ) (l ps : List ℕ) → Climbs k last l ps → Each (λ (p : ℕ). last < number_at l p) ps
climbs-above k last l [] h = tt
climbs-above k last l (p ∷ ps) h =
    (h.1, each_map (λ (i : ℕ). number_at l p < number_at l i) (λ (i : ℕ). last < number_at l i) (λ i a. omega arith) ps (climbs-above k (number_at l p) l ps h.2))

-- with a greater k, and the same numbers of the first k records
climbs-more : (k m last : ℕ) (l l' ps : List ℕ) → k ≤ m → ((p : ℕ) → p < k → number_at l' p ≡ number_at l p) → Climbs k last l ps → Climbs m last l' ps
climbs-more k m last l l' [] c e h = tt
climbs-more k m last l l' (p ∷ ps) c e h =
    let same : number_at l' p ≡ number_at l p = e p h.0 in (
      omega arith,
      omega arith,
      subst (λ (n : ℕ). Climbs m n l' ps) (sym same) (climbs-more k m (number_at l p) l l' ps c e h.2),
    )

-- one place more, whose number is none of theirs
climbs_with : (p last : ℕ) (l ps : List ℕ) → last < number_at l p → Each (λ (i : ℕ). number_at l i ≡ number_at l p → ⊥) ps → Climbs p last l ps → Climbs (p + 1) last l (with_place p l ps)
climbs_with p last l [] a n h = (omega arith, a, tt)
climbs_with p last l (i ∷ ps) a n h = go (ltb (number_at l i) (number_at l p)) refl (λ b. climbs_with p (number_at l i) l ps b n.1 h.2)
  where
    r : Bool → ℕ
    r b = cond b (suc (rank (number_at l p) l ps)) 0

    go : (b : Bool) → ltb (number_at l i) (number_at l p) ≡ b → (number_at l i < number_at l p → Climbs (p + 1) (number_at l i) l (with_place p l ps))
        → Climbs (p + 1) last l (take (r b) (i ∷ ps) ++ p ∷ drop (r b) (i ∷ ps))
    go true e rest = (omega arith, h.1, rest (ltb-true (number_at l i) (number_at l p) e))
    go false e rest =
        let least : number_at l p ≤ number_at l i = ltb-false (number_at l i) (number_at l p) e in
        let other : number_at l i ≡ number_at l p → ⊥ = n.0 in (
          omega arith,
          a,
          (omega arith, omega arith, climbs-more p (p + 1) (number_at l i) l l ps (omega arith) (λ _ _. refl) h.2),
        )

-- ---- the places of the used records

pub ordered-places : (k : ℕ) (l : List ℕ) → ordered k l ≡ true → PlacesIn k l
unfolding ordered
ordered-places k l e = climbs_in k 0 l (order k l) (climbs_true k 0 l (order k l) e)

pub nothing_ordered : (l : List ℕ) → ordered 0 l ≡ true
unfolding ordered
nothing_ordered l = refl

-- with the same records and places they are in order as before
pub ordered_same : (k : ℕ) (l l' : List ℕ) → used k l' ≡ used k l → order k l' ≡ order k l → ordered k l ≡ true → ordered k l' ≡ true
unfolding ordered
ordered_same k l l' e f h =
    rw f (true_climbs k 0 l' (order k l) (climbs-more k k 0 l l' (order k l) (omega arith) same (climbs_true k 0 l (order k l) h)))
  where
    same : (p : ℕ) → p < k → number_at l' p ≡ number_at l p
    same p b = subst (λ (n : ℕ). number_at l' n ≡ number_at l n) (is p) (ap (λ (q : Query). q.number) (tabulated_same (record_at l') (record_at l) 0 k p b e))
      where
        is : (n : ℕ) → 0 + n ≡ n
        is n = omega arith

-- one record more, with a number of its own that is above 0: its place is found in a list m with the same numbers
pub ordered_with : (k : ℕ) (l m l' : List ℕ) → ((p : ℕ) → p < k → number_at m p ≡ number_at l p) → ((p : ℕ) → p < k + 1 → number_at l' p ≡ number_at m p)
    → order (k + 1) l' ≡ with_place k m (order k l) → 0 < number_at m k → is_registered (number_at m k) (used k l) ≡ false → ordered k l ≡ true → ordered (k + 1) l' ≡ true
unfolding ordered
ordered_with k l m l' same same' placed above apart h =
    let climbing : Climbs k 0 l (order k l) = climbs_true k 0 l (order k l) h in
    let others : Each (λ (p : ℕ). number_at m p ≡ number_at m k → ⊥) (order k l) =
    each_map (λ (p : ℕ). p < k) (λ (p : ℕ). number_at m p ≡ number_at m k → ⊥) other (order k l) (climbs_in k 0 l (order k l) climbing) in
    let with : Climbs (k + 1) 0 m (with_place k m (order k l)) =
    climbs_with k 0 m (order k l) above others (climbs-more k k 0 l m (order k l) (omega arith) same climbing) in
    rw placed (true_climbs (k + 1) 0 l' (with_place k m (order k l)) (climbs-more (k + 1) (k + 1) 0 m l' (with_place k m (order k l)) (omega arith) same' with))
  where
    other : (p : ℕ) → p < k → number_at m p ≡ number_at m k → ⊥
    other p b e =
        let differs : eqb (number_at m k) (number_at l (0 + p)) ≡ false = none_tabulated (has_number (number_at m k)) (record_at l) 0 k p b apart in
        let at : 0 + p ≡ p = omega arith in
        eqb-false (number_at m k) (number_at l p) (rw at at differs) (sym e ∙ same p b)

-- ---- no number is shared

false_not_true : false ≡ true → ⊥
false_not_true e = let z : ◌≡◌ {A = ℕ} 0 1 = cc in omega arith

-- a number that is registered by the first query or a later one, and is not the first one's, is by a later one
later-registered : (z : ℕ) (q : Query) (qs : List Query) → (z ≡ q.number → ⊥) → is_registered z (q ∷ qs) ≡ true → is_registered z qs ≡ true
later-registered z q qs other e = rw (ne_eqb z q.number other) at e

-- the other numbers of these queries are also those of the rest, which is one query shorter
abbrev pub Spared : (other : ℕ → Type 0) (qs rest : List Query) → Type 0
Spared other qs rest = (length qs ≡ suc (length rest)) × ((z : ℕ) → other z → is_registered z qs ≡ true → is_registered z rest ≡ true)

abbrev pub Spare : (ℕ → Type 0) → List Query → Type 0
Spare other qs = (rest : List Query) × Spared other qs rest

-- what can be spared later can be spared here
spare_later : (other : ℕ → Type 0) (q : Query) (qs : List Query) → Spare other qs → Spare other (q ∷ qs)
spare_later other q qs s = (q ∷ s.0, (ap suc s.1.0, λ z o among. go z o (eqb z q.number) refl among))
  where
    go : (z : ℕ) → other z → (b : Bool) → eqb z q.number ≡ b → (b || is_registered z qs) ≡ true → (eqb z q.number || is_registered z s.0) ≡ true
    go z o true e among = or_left (eqb z q.number) (is_registered z s.0) e
    go z o false e among = or_right (eqb z q.number) (is_registered z s.0) (s.1.1 z o among)

-- all numbers but x can spare a query with the number x
pub spare_one : (x : ℕ) (qs : List Query) → is_registered x qs ≡ true → Spare (λ (z : ℕ). z ≡ x → ⊥) qs
spare_one x [] e = absurd (false_not_true e)
spare_one x (q ∷ qs) e = go (eqb x q.number) refl e (spare_one x qs)
  where
    go : (b : Bool) → eqb x q.number ≡ b → (b || is_registered x qs) ≡ true → (is_registered x qs ≡ true → Spare (λ (z : ℕ). z ≡ x → ⊥) qs)
        → Spare (λ (z : ℕ). z ≡ x → ⊥) (q ∷ qs)
    go true f h more = (qs, (refl, λ z other among. later-registered z q qs (λ e. other (e ∙ sym (eqb-true x q.number f))) among))
    go false f h more = spare_later (λ (z : ℕ). z ≡ x → ⊥) q qs (more h)

-- all numbers can spare a query where two share a number
spare_shared : (qs : List Query) → shared_number qs ≡ true → Spare (λ (z : ℕ). Unit {0}) qs
spare_shared [] e = absurd (false_not_true e)
spare_shared (q ∷ qs) e = go (is_registered q.number qs) refl e (spare_shared qs)
  where
    first : is_registered q.number qs ≡ true → (z : ℕ) → (b : Bool) → eqb z q.number ≡ b → (b || is_registered z qs) ≡ true → is_registered z qs ≡ true
    first f z true e among = subst (λ (n : ℕ). is_registered n qs ≡ true) (sym (eqb-true z q.number e)) f
    first f z false e among = among

    go : (b : Bool) → is_registered q.number qs ≡ b → (b || shared_number qs) ≡ true → (shared_number qs ≡ true → Spare (λ (z : ℕ). Unit {0}) qs)
        → Spare (λ (z : ℕ). Unit {0}) (q ∷ qs)
    go true f h more = (qs, (refl, λ z other among. first f z (eqb z q.number) refl among))
    go false f h more = spare_later (λ (z : ℕ). Unit {0}) q qs (more h)

-- numbers that ascend are at most as many as the queries of which each is one's number
pub climbs-few : (k last : ℕ) (l ps : List ℕ) (qs : List Query) → Climbs k last l ps → Each (λ (p : ℕ). is_registered (number_at l p) qs ≡ true) ps → length ps ≤ length qs
climbs-few k last l [] qs h among = omega arith
climbs-few k last l (p ∷ ps) qs h among =
    let s : Spare (λ (z : ℕ). z ≡ number_at l p → ⊥) qs = spare_one (number_at l p) qs among.0 in
    let each : Each (λ (i : ℕ). is_registered (number_at l i) s.0 ≡ true) ps = both s ps (climbs-above k (number_at l p) l ps h.2) among.1 in
    let fewer : length ps ≤ length s.0 = climbs-few k (number_at l p) l ps s.0 h.2 each in
    let one : length qs ≡ suc (length s.0) = s.1.0 in
    omega arith
  where
    both : (s : Spare (λ (z : ℕ). z ≡ number_at l p → ⊥) qs) (is : List ℕ) → Each (λ (i : ℕ). number_at l p < number_at l i) is
        → Each (λ (i : ℕ). is_registered (number_at l i) qs ≡ true) is → Each (λ (i : ℕ). is_registered (number_at l i) s.0 ≡ true) is
    both s [] a b = tt
    both s (i ∷ is) a b = (s.1.1 (number_at l i) (λ e. let less : number_at l p < number_at l i = a.0 in omega arith) b.0, both s is a.1 b.1)

-- the number of a used record is registered
pub registered_in_lem : (k : ℕ) (l : List ℕ) (i : ℕ) → i < k → is_registered (number_at l i) (used k l) ≡ true
registered_in_lem k l i b = any-tabulate (has_number (number_at l i)) (record_at l) 0 k i b (eq-eqb (number_at l i) (number_at l (0 + i)) (ap (number_at l) is))
  where
    is : i ≡ 0 + i
    is = omega arith

-- as many places as records, along which the numbers ascend, are the places of all, and so no number is shared
pub ordered_shared : (k : ℕ) (l : List ℕ) → k ≤ record_limit → list_places ≤ length l → ordered k l ≡ true → shared_number (used k l) ≡ false
unfolding ordered
ordered_shared k l c w h = go (shared_number (used k l)) refl
  where
    climbing : Climbs k 0 l (order k l)
    climbing = climbs_true k 0 l (order k l) h

    go : (b : Bool) → shared_number (used k l) ≡ b → b ≡ false
    go true e =
        let s : Spare (λ (z : ℕ). Unit {0}) (used k l) = spare_shared (used k l) e in
        let few : length (order k l) ≤ length s.0 =
        climbs-few k 0 l (order k l) s.0 climbing
        (each_map (λ (p : ℕ). p < k) (λ (p : ℕ). is_registered (number_at l p) s.0 ≡ true) (λ p b. s.1.1 (number_at l p) tt (registered_in_lem k l p b)) (order k l) (climbs_in k 0 l (order k l) climbing)) in
        let one : length (used k l) ≡ suc (length s.0) = s.1.0 in
        absurd (omega (arith, order-length k l c w, length-tabulate (record_at l) 0 k))
    go false e = refl
