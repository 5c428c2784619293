-- The records of a query list laid out as numbers: the views of the layer below are these records, the places by
-- ascending number are in order where no two used records share a number, and where the records after the used ones are
-- unused, all behind them is 0.
-- Assumes nothing.
use Rattle.std.proofs.Common.{◌≡◌, ℕ, zero, suc, ◌+◌, ◌-◌, ◌≤◌, ◌<◌, min, Bool, true, false, ◌||◌, ltb, eqb, List, [], ◌∷◌, ◌++◌, length, get_or, take, drop, replicate, refl, sym, ap, ap₂, ◌∙◌, subst, arith, add-one, length-drop, take-append-drop, drop_of_length-le, take_all, take_at, get_or-append-add, ltb-false, ne_eqb}
use borrow.Author.Tests.{eqb-false}
use Rattle.std.proofs.lemmas.List.{length-replicate, get_or-replicate}
use Rattle.window.specs.declared.query.Query.{Query}
use Rattle.window.specs.Lists.{any, Each}
use Rattle.window.specs.Queries.{Limits, query_limit}
use Rattle.window.specs.Refusals.{has_number, is_registered, applying, field_checks, broken_record, shared_number, damaged}
use Rattle.window.proofs.Lists.{or_neither, not_left, not_right, le_cases}
use Rattle.window.proofs.Refusals.{any_passed, fields_passed}
use Rattle.registry.specs.Records.{record_limit, order_at, list_places, tabulate, record_at, used, ordered, inserted, list_fits, unused, Tidy, ListKept}
use Rattle.registry.specs.Edits.{PlacesIn, appended}
use Rattle.registry.proofs.Tabulating.{tabulate_cong, tabulate-more, tabulated_at, part_tabulate}
use Rattle.registry.proofs.Laying.{record-length, record-past, record-other, record_same, record-still, same_at, at-tidy}
use Rattle.registry.proofs.Ordering.{nothing_ordered}
use Rattle.registry.proofs.Joining.{appended-new, appended_other, appended_past, appended-length, appended-all}
use Rattle.registry.proofs.Intact.{intact-fits}
use Rattle.records.specs.Laid.{written, placed, laid}
use Rattle.records.specs.LentList.{filled_up}
use Rattle.records.proofs.Editing.{filled-length}

-- ---- the records

pub written-length : (n : ℕ) (rs : List Query) (l : List ℕ) → length (written n rs l) ≡ length l
unfolding written
written-length zero rs l = refl
written-length (suc n) rs l = record-length n (get_or rs n unused) (written n rs l) ∙ written-length n rs l

-- the numbers behind the records are as they were
written_past : (n : ℕ) (rs : List Query) (l : List ℕ) → n ≤ record_limit → drop order_at (written n rs l) ≡ drop order_at l
unfolding written
written_past zero rs l c = refl
written_past (suc n) rs l c = record-past n (get_or rs n unused) (written n rs l) (omega arith) ∙ written_past n rs l (omega arith)

-- each record stands at its place
written_at : (n : ℕ) (rs : List Query) (l : List ℕ) → n ≤ record_limit → list_places ≤ length l → (i : ℕ) → i < n → record_at (written n rs l) i ≡ get_or rs i unused
unfolding written
written_at zero rs l c w i h = absurd (omega arith)
written_at (suc n) rs l c w i h =
    le_cases n i
    (λ a.
    let e : i ≡ n = omega arith in
    ap (record_at (written (suc n) rs l)) e ∙ record_same n (get_or rs n unused) (written n rs l) (omega arith) (omega (arith, written-length n rs l)) ∙ ap (λ (m : ℕ). get_or rs m unused) (sym e))
    (λ a. record-other n (get_or rs n unused) (written n rs l) i (omega arith) (omega arith) (λ e. omega arith) ∙ written_at n rs l (omega arith) w i a)

-- ---- the places

-- so a place is put in order as if its record joined
as_joined : (k : ℕ) (l : List ℕ) → inserted k l ≡ appended k (record_at l k) l
unfolding appended
as_joined k l = ap (inserted k) (sym (record-still k l))

module _ (l : List ℕ) (w : list_places ≤ length l) where
  pub placed-length : (k : ℕ) → k ≤ record_limit → length (placed k l) ≡ length l
  unfolding placed
  placed-length zero c = refl
  placed-length (suc k) c =
      ap length (as_joined k (placed k l))
      ∙ appended-length k (record_at (placed k l) k) (placed k l) (omega arith) (omega (arith, placed-length k (omega arith)))
      ∙ placed-length k (omega arith)

  still-long : (k : ℕ) → k ≤ record_limit → list_places ≤ length (placed k l)
  still-long k c = omega (arith, placed-length k c)

  -- the records are as they were
  placed_at : (k : ℕ) → k ≤ record_limit → (i : ℕ) → i < record_limit → record_at (placed k l) i ≡ record_at l i
  unfolding placed
  placed_at zero c i h = refl
  placed_at (suc k) c i h = ap (λ (m : List ℕ). record_at m i) (as_joined k (placed k l)) ∙ le_cases i k
      (λ a. le_cases k i
      (λ b. let e : i ≡ k = omega arith in ap (record_at (appended k (record_at (placed k l) k) (placed k l))) e ∙ appended-new k (record_at (placed k l) k) (placed k l) (omega arith) (still-long k (omega arith)) ∙ ap (record_at (placed k l)) (sym e))
      (λ b. appended_other k (record_at (placed k l) k) (placed k l) (omega arith) (still-long k (omega arith)) i h (λ e. omega arith)))
      (λ b. appended_other k (record_at (placed k l) k) (placed k l) (omega arith) (still-long k (omega arith)) i h (λ e. omega arith))
      ∙ placed_at k (omega arith) i h

  -- and so are the places behind the first k
  placed_past : (k : ℕ) → k ≤ record_limit → (i : ℕ) → k ≤ i → get_or (placed k l) (order_at + i) 0 ≡ get_or l (order_at + i) 0
  unfolding placed
  placed_past zero c i h = refl
  placed_past (suc k) c i h =
      ap (λ (m : List ℕ). get_or m (order_at + i) 0) (as_joined k (placed k l))
      ∙ same_at (order_at + suc k) (order_at + i) (placed k l) (appended k (record_at (placed k l) k) (placed k l)) (omega arith)
      (appended_past k (record_at (placed k l) k) (placed k l) (omega arith) (still-long k (omega arith)))
      ∙ placed_past k (omega arith) i (omega arith)

  -- each is that of one of the first k records
  pub placed_in : (k : ℕ) → k ≤ record_limit → PlacesIn k (placed k l)
  unfolding placed
  placed_in zero c = tt
  placed_in (suc k) c =
      subst (λ (n : ℕ). PlacesIn n (inserted k (placed k l))) (add-one k)
      (subst (PlacesIn (k + 1)) (sym (as_joined k (placed k l)))
      (appended-all k (record_at (placed k l) k) (placed k l) (omega arith) (still-long k (omega arith)) (placed_in k (omega arith))).places)

  -- what `insert` asks of the list
  pub placed_ready : (k : ℕ) (m : List ℕ) → k < record_limit → m ≡ placed k l → (list_places ≤ length m) × (k < record_limit) × PlacesIn k m
  placed_ready k m c e = (rw e (still-long k (omega arith)), c, subst (PlacesIn k) (sym e) (placed_in k (omega arith)))

  -- the used records are as they were
  placed-used : (k n : ℕ) → k ≤ record_limit → n ≤ record_limit → used n (placed k l) ≡ used n l
  placed-used k n c d = tabulate_cong (record_at (placed k l)) (record_at l) 0 n (λ j a b. placed_at k c j (omega arith))

-- ---- in order

-- a test that none passes is passed by none of the first ones
none_front : (p : Query → Bool) (xs ys : List Query) → any p (xs ++ ys) ≡ false → any p xs ≡ false
none_front p [] ys e = refl
none_front p (x ∷ xs) ys e = or_neither (p x) (any p xs) (not_left (p x) (any p (xs ++ ys)) e) (none_front p xs ys (not_right (p x) (any p (xs ++ ys)) e))

-- nor by the last one
none_last : (p : Query → Bool) (xs : List Query) (q : Query) → any p (xs ++ (q ∷ [])) ≡ false → p q ≡ false
none_last p [] q e = not_left (p q) false e
none_last p (x ∷ xs) q e = none_last p xs q (not_right (p x) (any p (xs ++ (q ∷ []))) e)

-- where no number is shared, none of the first ones is
unshared_front : (xs ys : List Query) → shared_number (xs ++ ys) ≡ false → shared_number xs ≡ false
unshared_front [] ys e = refl
unshared_front (x ∷ xs) ys e =
    or_neither (is_registered x.number xs) (shared_number xs)
    (none_front (has_number x.number) xs ys (not_left (is_registered x.number (xs ++ ys)) (shared_number (xs ++ ys)) e))
    (unshared_front xs ys (not_right (is_registered x.number (xs ++ ys)) (shared_number (xs ++ ys)) e))

-- and the last one's number is none of theirs
unshared_last : (xs : List Query) (q : Query) → shared_number (xs ++ (q ∷ [])) ≡ false → is_registered q.number xs ≡ false
unshared_last [] q e = refl
unshared_last (x ∷ xs) q e =
    let differs : eqb x.number q.number ≡ false =
    none_last (has_number x.number) xs q (not_left (is_registered x.number (xs ++ (q ∷ []))) (shared_number (xs ++ (q ∷ []))) e) in
    or_neither (eqb q.number x.number) (is_registered q.number xs)
    (ne_eqb q.number x.number (λ f. eqb-false x.number q.number differs (sym f)))
    (unshared_last xs q (not_right (is_registered x.number (xs ++ (q ∷ []))) (shared_number (xs ++ (q ∷ []))) e))

module _ (l : List ℕ) (w : list_places ≤ length l) where
  -- one used record more
  used-more : (k : ℕ) → used (suc k) l ≡ used k l ++ (record_at l k ∷ [])
  used-more k = ap (λ (n : ℕ). used n l) (sym (add-one k)) ∙ tabulate-more (record_at l) 0 k ∙ ap (λ (n : ℕ). used k l ++ (record_at l n ∷ [])) at
    where
      at : 0 + k ≡ k
      at = omega arith

  -- the places of records with numbers of their own, all above 0, are in order
  placed-ordered : (k : ℕ) → k ≤ record_limit → shared_number (used k l) ≡ false → ((i : ℕ) → i < k → 0 < (record_at l i).number) → ordered k (placed k l) ≡ true
  unfolding placed
  placed-ordered zero c s above = nothing_ordered l
  placed-ordered (suc k) c s above =
      let apart : shared_number (used k l ++ (record_at l k ∷ [])) ≡ false = ap shared_number (sym (used-more k)) ∙ s in
      let here : record_at (placed k l) k ≡ record_at l k = placed_at l w k (omega arith) k (omega arith) in
      subst (λ (n : ℕ). ordered n (inserted k (placed k l)) ≡ true) (add-one k)
      (subst (λ (m : List ℕ). ordered (k + 1) m ≡ true) (sym (as_joined k (placed k l)))
      ((appended-all k (record_at (placed k l) k) (placed k l) (omega arith) (still-long l w k (omega arith)) (placed_in l w k (omega arith))).in_order
      (placed-ordered k (omega arith) (unshared_front (used k l) (record_at l k ∷ []) apart) (λ i h. above i (omega arith)))
      (subst (λ (q : Query). 0 < q.number) (sym here) (above k (omega arith)))
      (ap₂ (λ (q : Query) (qs : List Query). is_registered q.number qs) here (placed-used l w k k (omega arith) (omega arith)) ∙ unshared_last (used k l) (record_at l k) apart)))

-- ---- the whole list

-- the numbers before the places are put in order
abbrev unplaced : List Query → List ℕ
unplaced rs = written record_limit rs (replicate list_places 0)

unplaced_long : (rs : List Query) → list_places ≤ length (unplaced rs)
unplaced_long rs = omega (arith, written-length record_limit rs (replicate list_places 0), length-replicate {A = ℕ} list_places 0)

unplaced_at : (rs : List Query) (i : ℕ) → i < record_limit → record_at (unplaced rs) i ≡ get_or rs i unused
unplaced_at rs i h = written_at record_limit rs (replicate list_places 0) (omega arith) (omega (arith, length-replicate {A = ℕ} list_places 0)) i h

-- it has as many numbers as the list asks
pub laid-length : (k : ℕ) (rs : List Query) → length (laid k rs) ≡ list_places
unfolding laid
laid-length k rs =
    placed-length (unplaced rs) (unplaced_long rs) (min k record_limit) (omega arith)
    ∙ written-length record_limit rs (replicate list_places 0)
    ∙ length-replicate {A = ℕ} list_places 0

-- its records are these
pub laid-at : (k : ℕ) (rs : List Query) (i : ℕ) → i < record_limit → record_at (laid k rs) i ≡ get_or rs i unused
unfolding laid
laid-at k rs i h = placed_at (unplaced rs) (unplaced_long rs) (min k record_limit) (omega arith) i h ∙ unplaced_at rs i h

-- two such lists have the same length
pub laid_kept : (k m : ℕ) (rs qs : List Query) → ListKept (laid k rs) (laid m qs)
laid_kept k m rs qs =
    record {
      as_long = laid-length m qs ∙ sym (laid-length k rs);
      beyond = none m qs ∙ sym (none k rs);
    }
  where
    none : (n : ℕ) (xs : List Query) → drop list_places (laid n xs) ≡ []
    none n xs = let all : length (laid n xs) ≤ list_places = omega (arith, laid-length n xs) in drop_of_length-le (laid n xs) all

module _ (k : ℕ) (rs : List Query) (c : k ≤ record_limit) where
  -- the records from a place on, which the list has
  laid_part : (i n : ℕ) → i + n ≤ record_limit → i + n ≤ length rs → tabulate (record_at (laid k rs)) i n ≡ take n (drop i rs)
  laid_part i n a b =
      tabulate_cong (record_at (laid k rs)) (λ (j : ℕ). get_or rs j unused) i n (λ j d e. laid-at k rs j (omega arith))
      ∙ sym (part_tabulate rs unused i n b)

  -- the used ones are the first k
  pub laid-used : k ≤ length rs → used k (laid k rs) ≡ take k rs
  laid-used w = laid_part 0 k (omega arith) (omega arith)

  few : min k record_limit ≡ k
  few = omega arith

  -- behind the first k all is 0 where those records are unused
  pub laid-tidy : ((i : ℕ) → k ≤ i → i < record_limit → get_or rs i unused ≡ unused) → Tidy k (laid k rs)
  unfolding laid
  laid-tidy h =
      at-tidy k (laid k rs) c (omega (arith, laid-length k rs))
      (record { records = λ i a b. laid-at k rs i b ∙ h i a b; order = behind })
    where
      behind : (i : ℕ) → k ≤ i → i < record_limit → get_or (laid k rs) (order_at + i) 0 ≡ 0
      behind i a b =
          placed_past (unplaced rs) (unplaced_long rs) (min k record_limit) (omega arith) i (omega (arith, few))
          ∙ same_at order_at (order_at + i) (replicate list_places 0) (unplaced rs) (omega arith) (written_past record_limit rs (replicate list_places 0) (omega arith))
          ∙ get_or-replicate list_places (order_at + i) 0 0 (omega arith)

  -- the places are in order where no two of the first k share a number, and all are above 0
  pub laid-ordered : k ≤ length rs → shared_number (take k rs) ≡ false → Each (λ (q : Query). 0 < q.number) (take k rs) → ordered k (laid k rs) ≡ true
  unfolding laid
  laid-ordered w s above =
      let first : used k (unplaced rs) ≡ take k rs =
      tabulate_cong (record_at (unplaced rs)) (λ (j : ℕ). get_or rs j unused) 0 k (λ j d e. unplaced_at rs j (omega arith)) ∙ sym (part_tabulate rs unused 0 k (omega arith)) in
      subst (λ (n : ℕ). ordered k (placed n (unplaced rs)) ≡ true) (sym few)
      (placed-ordered (unplaced rs) (unplaced_long rs) k c (ap shared_number first ∙ s)
      (λ i h. subst (λ (n : ℕ). 0 < (record_at (unplaced rs) n).number) (is i) (tabulated_at (λ (q : Query). 0 < q.number) (record_at (unplaced rs)) 0 k i h (subst (Each (λ (q : Query). 0 < q.number)) (sym first) above))))
    where
      is : (i : ℕ) → 0 + i ≡ i
      is i = omega arith

-- ---- check 2

-- records of which none is broken have numbers above 0
sound_numbers : (n : ℕ) (qs : List Query) → any (broken_record n) qs ≡ false → Each (λ (q : Query). 0 < q.number) qs
sound_numbers n [] h = tt
sound_numbers n (q ∷ qs) h =
    let fine : Limits q =
    fields_passed q (any_passed (field_checks q.number q.kind q.range q.slide)
    (not_left (any applying (field_checks q.number q.kind q.range q.slide)) (ltb n q.origin) (not_left (broken_record n q) (any (broken_record n) qs) h))) in
    (omega arith, sound_numbers n qs (not_right (broken_record n q) (any (broken_record n) qs) h))

-- a list that is not damaged as document 01 has it passes
pub laid-fits : (n k : ℕ) (rs : List Query) → k ≤ length rs → damaged n k (take k rs) ≡ false → list_fits n k (laid k rs) ≡ true
unfolding damaged
laid-fits n k rs w d =
    let rest : (any (broken_record n) (take k rs) || shared_number (take k rs)) ≡ false = not_right (ltb query_limit k) (any (broken_record n) (take k rs) || shared_number (take k rs)) d in
    let c : k ≤ record_limit = ltb-false query_limit k (not_left (ltb query_limit k) (any (broken_record n) (take k rs) || shared_number (take k rs)) d) in
    intact-fits n k (laid k rs)
    (laid-ordered k rs c w (not_right (any (broken_record n) (take k rs)) (shared_number (take k rs)) rest) (sound_numbers n (take k rs) (not_left (any (broken_record n) (take k rs)) (shared_number (take k rs)) rest)))
    (ap (damaged n k) (laid-used k rs c w) ∙ d)

-- ---- these records, and unused ones after them

module _ (qs : List Query) (c : length qs ≤ record_limit) where
  first-filled : take (length qs) (filled_up qs) ≡ qs
  first-filled = take_at qs (replicate (record_limit - length qs) unused) (length qs) refl

  long_filled : length qs ≤ length (filled_up qs)
  long_filled = omega (arith, filled-length qs c)

  pub filled-used : used (length qs) (laid (length qs) (filled_up qs)) ≡ qs
  filled-used = laid-used (length qs) (filled_up qs) c long_filled ∙ first-filled

  pub filled-tidy : Tidy (length qs) (laid (length qs) (filled_up qs))
  filled-tidy = laid-tidy (length qs) (filled_up qs) c (λ i a b.
      ap (λ (n : ℕ). get_or (filled_up qs) n unused) (is i a)
      ∙ get_or-append-add qs (replicate (record_limit - length qs) unused) (i - length qs) unused
      ∙ get_or-replicate (record_limit - length qs) (i - length qs) unused unused (omega arith))
    where
      is : (i : ℕ) → length qs ≤ i → i ≡ length qs + (i - length qs)
      is i a = omega arith

  pub filled-fits : (n : ℕ) → damaged n (length qs) qs ≡ false → list_fits n (length qs) (laid (length qs) (filled_up qs)) ≡ true
  filled-fits n d = laid-fits n (length qs) (filled_up qs) long_filled (ap (damaged n (length qs)) first-filled ∙ d)

-- 32 records of which the used ones are qs, and which are tidy, are no others
pub laid_filled : (k : ℕ) (rs qs : List Query) → length rs ≡ record_limit → length qs ≤ record_limit → k ≡ length qs → used k (laid k rs) ≡ qs → Tidy k (laid k rs) → rs ≡ filled_up qs
laid_filled k rs qs w c e u t =
    sym (take-append-drop k rs)
    ∙ ap₂ ◌++◌ (sym (laid-used k rs (omega arith) (omega arith)) ∙ u)
    (sym (take_all (record_limit - k) (drop k rs) (omega (arith, length-drop k rs)))
    ∙ sym (laid_part k rs (omega arith) k (record_limit - k) (omega arith) (omega arith))
    ∙ t.records
    ∙ ap (λ (n : ℕ). replicate (record_limit - n) unused) e)
