-- What comes of a query that joins the list: `appended` has all that `Appended` says. And a query that leaves it: the
-- others join anew one after the other, which keeps what `withdraw` knows of the list.
-- Assumes nothing.
use Rattle.std.proofs.Common.{◌≡◌, ℕ, suc, ◌+◌, ◌-◌, ◌<◌, ◌≤◌, Bool, true, false, cond, not, eqb, ◌≢◌, List, [], ◌∷◌, ◌++◌, length, take, drop, sym, refl, ap, ◌∙◌, subst, ap₂, append-nil, add-one, arith, eq-eqb, ne_eqb}
use borrow.Author.Tests.{eqb-false}
use Rattle.window.specs.declared.query.Query.{Query}
use Rattle.window.specs.Lists.{filter, any, Each}
use Rattle.window.specs.Refusals.{has_number, is_registered, shared_number}
use Rattle.window.proofs.Lists.{or_neither, not_left, not_right, filter-append, any-filter}
use Rattle.registry.specs.Records.{record_limit, order_at, list_places, tabulate, number_at, record_at, used, with_record, order, ordered, rank, with_place, inserted, Tidy, ListKept}
use Rattle.registry.specs.Edits.{PlacesIn, appended, Appended, Withdrawn, Cleared}
use Rattle.registry.proofs.Tabulating.{tabulate-more, tabulate_split, tabulate-next, tabulated_at}
use Rattle.registry.proofs.Laying.{record-length, record-past, record-other, record_same, with_order, with_order-length, with_order_record, with_order-order, with_order_past, same-later, same_at, used-same, TidyAt, tidy-at, at-tidy, kept_same, kept_then}
use Rattle.registry.proofs.Ordering.{with_place_at, order-length, length-with_place, places-more, nothing_ordered, ordered_same, ordered_with}

-- ---- a query joins

module _ (k : ℕ) (q : Query) (l : List ℕ) (c : k < record_limit) (w : list_places ≤ length l) where
  -- the list with the record alone
  abbrev written : List ℕ
  written = with_record k q l

  -- the places of the first k, and that of the new record
  abbrev places : List ℕ
  places = with_place k written (order k written)

  is_with_order : appended k q l ≡ with_order (suc k) places written
  unfolding appended inserted
  is_with_order = refl

  long : list_places ≤ length written
  long = rw (record-length k q l) w

  sized : length places ≡ suc k
  sized = length-with_place k (rank (number_at written k) written (order k written)) (order k written) ∙ ap suc (order-length k written (omega arith) long)

  roomy : order_at + suc k ≤ length written
  roomy = omega (arith, long)

  order-written : order k written ≡ order k l
  order-written = ap (take k) (record-past k q l c)

  -- the records: the new one, and the others as they were
  pub appended-new : record_at (appended k q l) k ≡ q
  appended-new = ap (λ (r : List ℕ). record_at r k) is_with_order ∙ with_order_record (suc k) places written sized roomy k c ∙ record_same k q l c w

  pub appended_other : (i : ℕ) → i < record_limit → i ≢ k → record_at (appended k q l) i ≡ record_at l i
  appended_other i h n = ap (λ (r : List ℕ). record_at r i) is_with_order ∙ with_order_record (suc k) places written sized roomy i h ∙ record-other k q l i c h n

  -- the places
  pub appended-order : order (k + 1) (appended k q l) ≡ with_place k written (order k l)
  appended-order =
      ap (λ (r : List ℕ). order (k + 1) r) is_with_order ∙ ap (λ (n : ℕ). order n (with_order (suc k) places written)) (add-one k)
      ∙ with_order-order (suc k) places written sized roomy ∙ ap (with_place k written) order-written

  -- what comes behind them
  pub appended_past : drop (order_at + suc k) (appended k q l) ≡ drop (order_at + suc k) l
  appended_past =
      ap (drop (order_at + suc k)) is_with_order ∙ with_order_past (suc k) places written sized roomy
      ∙ same-later order_at (order_at + suc k) l written (omega arith) (record-past k q l c)

  pub appended-length : length (appended k q l) ≡ length l
  appended-length = ap length is_with_order ∙ with_order-length (suc k) places written sized roomy ∙ record-length k q l

  -- ---- what `Appended` says

  all-queries : used (k + 1) (appended k q l) ≡ used k l ++ (q ∷ [])
  all-queries =
      tabulate-more (record_at (appended k q l)) 0 k
      ∙ ap₂ (λ (qs : List Query) (r : Query). qs ++ (r ∷ [])) (used-same k l (appended k q l) (λ i h. appended_other i (omega arith) (λ e. omega arith))) (ap (record_at (appended k q l)) at ∙ appended-new)
    where
      at : 0 + k ≡ k
      at = omega arith

  all-places : PlacesIn k l → PlacesIn (k + 1) (appended k q l)
  all-places h = rw appended-order (places-more k l written h)

  all-order : ordered k l ≡ true → 0 < q.number → is_registered q.number (used k l) ≡ false → ordered (k + 1) (appended k q l) ≡ true
  all-order h above apart =
      let new : number_at written k ≡ q.number = ap (λ (r : Query). r.number) (record_same k q l c w) in
      ordered_with k l written (appended k q l)
      (λ p b. ap (λ (r : Query). r.number) (record-other k q l p c (omega arith) (λ e. omega arith)))
      (λ p b. ap (λ (r : List ℕ). number_at r p) is_with_order ∙ ap (λ (r : Query). r.number) (with_order_record (suc k) places written sized roomy p (omega arith)))
      appended-order
      (rw new above)
      (rw new apart)
      h

  all-tidy : Tidy k l → Tidy (k + 1) (appended k q l)
  all-tidy t =
      let before : TidyAt k l = tidy-at k l (omega arith) w t in
      at-tidy (k + 1) (appended k q l) (omega arith) (rw appended-length w)
      (record {
        records = λ i a b. appended_other i b (λ e. omega arith) ∙ before.records i (omega arith) b;
        order = λ i a b. same_at (order_at + suc k) (order_at + i) l (appended k q l) (omega arith) appended_past ∙ before.order i (omega arith) b;
      })

  pub appended-all : PlacesIn k l → Appended k q l (appended k q l)
  appended-all h =
      record {
        queries = all-queries;
        later = λ i a b. appended_other i b (λ e. omega arith);
        places = all-places h;
        in_order = all-order;
        tidy = all-tidy;
        kept = record { as_long = appended-length; beyond = same-later (order_at + suc k) list_places l (appended k q l) (omega arith) appended_past };
      }

-- a place that is put where its number's rank says is inserted
pub inserted_at : (k r : ℕ) (l l' : List ℕ) → r ≡ rank (number_at l k) l (order k l) → l' ≡ take order_at l ++ with_place_at k r (order k l) ++ drop (order_at + suc k) l
    → l' ≡ inserted k l
unfolding inserted
inserted_at k r l l' e f = f ∙ ap (λ (n : ℕ). take order_at l ++ with_place_at k n (order k l) ++ drop (order_at + suc k) l) e

-- what `insert` asks of the list with the record alone
pub written_ready : (k : ℕ) (q : Query) (l m : List ℕ) → k < record_limit → list_places ≤ length l → PlacesIn k l → m ≡ with_record k q l
    → (list_places ≤ length m) × (k < record_limit) × PlacesIn k m
written_ready k q l m c w h e = (rw (e, record-length k q l) w, c, subst (Each (λ (p : ℕ). p < k)) (sym (ap (order k) e ∙ order-written k q l c w)) h)

-- and what it makes of it
pub written-joined : (k : ℕ) (q : Query) (l m l' : List ℕ) → k < record_limit → list_places ≤ length l → PlacesIn k l → m ≡ with_record k q l → l' ≡ inserted k m
    → (l' ≡ appended k q l) × Appended k q l l'
unfolding appended
written-joined k q l m l' c w h e f =
    let is : l' ≡ appended k q l = f ∙ ap (inserted k) e in
    (is, subst (Appended k q l) (sym is) (appended-all k q l c w h))

-- ---- a query leaves

-- the query has another number
abbrev is_other : ℕ → Query → Bool
is_other number q = not (has_number number q)

-- a test that none passes is failed by the one in the middle
none_middle : (p : Query → Bool) (xs : List Query) (q : Query) (ys : List Query) → any p (xs ++ q ∷ ys) ≡ false → p q ≡ false
none_middle p [] q ys e = not_left (p q) (any p ys) e
none_middle p (x ∷ xs) q ys e = none_middle p xs q ys (not_right (p x) (any p (xs ++ q ∷ ys)) e)

-- where no number is shared, the number of one of the queries is none of those before it
unshared_before : (xs : List Query) (q : Query) (ys : List Query) → shared_number (xs ++ q ∷ ys) ≡ false → is_registered q.number xs ≡ false
unshared_before [] q ys e = refl
unshared_before (x ∷ xs) q ys e =
    let differs : eqb x.number q.number ≡ false = none_middle (has_number x.number) xs q ys (not_left (is_registered x.number (xs ++ q ∷ ys)) (shared_number (xs ++ q ∷ ys)) e) in
    or_neither (eqb q.number x.number) (is_registered q.number xs)
    (ne_eqb q.number x.number (λ f. eqb-false x.number q.number differs (sym f)))
    (unshared_before xs q ys (not_right (is_registered x.number (xs ++ q ∷ ys)) (shared_number (xs ++ q ∷ ys)) e))

-- of the k queries in l₀ the first i were looked at, and the r of them that stay joined anew, which made l
pub record Leaving (number k : ℕ) (l₀ : List ℕ) (r i : ℕ) (l : List ℕ) : Type 0 where
  pub few : r ≤ i
  pub looked : i ≤ k
  pub queries : used r l ≡ filter (is_other number) (used i l₀)
  pub later : (j : ℕ) → i ≤ j → j < record_limit → record_at l j ≡ record_at l₀ j
  pub places : PlacesIn r l
  pub in_order : shared_number (used k l₀) ≡ false → Each (λ (q : Query). 0 < q.number) (used k l₀) → ordered r l ≡ true
  pub kept : ListKept l₀ l

pub leaving-start : (number k : ℕ) (l : List ℕ) → Leaving number k l 0 0 l
leaving-start number k l =
    record {
      few = omega arith;
      looked = omega arith;
      queries = refl;
      later = λ j a b. refl;
      places = tt;
      in_order = λ a b. nothing_ordered l;
      kept = kept_same l;
    }

module _ (number k : ℕ) (l₀ : List ℕ) (r i : ℕ) (l : List ℕ) (h : Leaving number k l₀ r i l) (more : i < k) (c : k ≤ record_limit) where
  -- the query at i is as it was
  looked_at : record_at l i ≡ record_at l₀ i
  looked_at = h.later i (omega arith) (omega arith)

  looked_number : (record_at l i).number ≡ (record_at l₀ i).number
  looked_number = ap (λ (q : Query). q.number) looked_at

  looked_first : used (i + 1) l₀ ≡ used i l₀ ++ (record_at l₀ i ∷ [])
  looked_first = tabulate-more (record_at l₀) 0 i ∙ ap (λ (n : ℕ). used i l₀ ++ (record_at l₀ n ∷ [])) at
    where
      at : 0 + i ≡ i
      at = omega arith

  -- of which those that stay are those before, and this one where it stays
  staying : filter (is_other number) (used (i + 1) l₀) ≡ filter (is_other number) (used i l₀) ++ cond (is_other number (record_at l₀ i)) (record_at l₀ i ∷ []) []
  staying = ap (filter (is_other number)) looked_first ∙ filter-append (is_other number) (used i l₀) (record_at l₀ i ∷ [])

  parts : used k l₀ ≡ used i l₀ ++ record_at l₀ i ∷ tabulate (record_at l₀) (i + 1) (k - (i + 1))
  parts =
      ap (λ (n : ℕ). used n l₀) whole ∙ tabulate_split (record_at l₀) 0 i (k - i) ∙ ap (λ (n : ℕ). used i l₀ ++ tabulate (record_at l₀) n (k - i)) at
      ∙ ap (λ (qs : List Query). used i l₀ ++ qs) (tabulate-next (record_at l₀) i k more)
    where
      whole : k ≡ i + (k - i)
      whole = omega arith

      at : 0 + i ≡ i
      at = omega arith

  -- the query at i leaves
  left_step : number ≡ (record_at l i).number → Leaving number k l₀ r (i + 1) l
  left_step e =
      let left : eqb number (record_at l₀ i).number ≡ true = eq-eqb number (record_at l₀ i).number (e ∙ looked_number) in
      record {
        few = omega arith;
        looked = omega arith;
        queries = h.queries ∙ sym (append-nil (filter (is_other number) (used i l₀))) ∙ sym (rw left at staying);
        later = λ j a b. h.later j (omega arith) b;
        places = h.places;
        in_order = h.in_order;
        kept = h.kept;
      }

  -- it stays, and joins
  kept_step : (l' : List ℕ) → (number ≡ (record_at l i).number → ⊥) → Appended r (record_at l i) l l' → Leaving number k l₀ (r + 1) (i + 1) l'
  kept_step l' n a =
      let stays : eqb number (record_at l₀ i).number ≡ false = ne_eqb number (record_at l₀ i).number (λ e. n (e ∙ sym looked_number)) in
      record {
        few = omega arith;
        looked = omega arith;
        queries = a.queries ∙ ap₂ (λ (qs : List Query) (q : Query). qs ++ (q ∷ [])) h.queries looked_at ∙ sym (rw stays at staying);
        later = λ j b d. a.later j (omega arith) d ∙ h.later j (omega arith) d;
        places = a.places;
        in_order = λ apart above.
            a.in_order (h.in_order apart above)
            (rw looked_number (subst (λ (m : ℕ). 0 < (record_at l₀ m).number) at (tabulated_at (λ (q : Query). 0 < q.number) (record_at l₀) 0 k i more above)))
            (rw (looked_number, h.queries) (any-filter (has_number (record_at l₀ i).number) (is_other number) (used i l₀)
            (unshared_before (used i l₀) (record_at l₀ i) (tabulate (record_at l₀) (i + 1) (k - (i + 1))) (sym (ap shared_number parts) ∙ apart))));
        kept = kept_then h.kept a.kept;
      }
    where
      at : 0 + i ≡ i
      at = omega arith

  -- the same of the query q that was read at i, and of what a turn leaves
  module _ (q : Query) (read : q ≡ record_at l i) (r' : ℕ) (l' : List ℕ) where
    pub leaving-left : number ≡ q.number → l' ≡ l → r' ≡ r → Leaving number k l₀ r' (i + 1) l'
    leaving-left e f g = subst (λ (m : ℕ). Leaving number k l₀ m (i + 1) l') (sym g) (subst (Leaving number k l₀ r (i + 1)) (sym f) (left_step (e ∙ ap (λ (p : Query). p.number) read)))

    pub leaving-kept : (l'' : List ℕ) → (number ≡ q.number → ⊥) → Appended r q l l'' → l' ≡ l'' → r' ≡ r + 1 → Leaving number k l₀ r' (i + 1) l'
    leaving-kept l'' n a f g =
        subst (λ (m : ℕ). Leaving number k l₀ m (i + 1) l') (sym g)
        (subst (Leaving number k l₀ (r + 1) (i + 1)) (sym f) (kept_step l'' (λ e. n (e ∙ sym (ap (λ (p : Query). p.number) read))) (subst (λ (p : Query). Appended r p l l'') read a)))

-- all were looked at, and what they leave is 0
pub leaving-done : (number k : ℕ) (l₀ : List ℕ) (r i : ℕ) (l l' : List ℕ) → Leaving number k l₀ r i l → k ≤ i → Cleared r l l' → Withdrawn number k l₀ r l'
leaving-done number k l₀ r i l l' h e a =
    let all : i ≡ k = omega (arith, h.looked) in
    record {
      few = omega (arith, h.few);
      queries = a.queries ∙ h.queries ∙ ap (λ (n : ℕ). filter (is_other number) (used n l₀)) all;
      in_order = λ apart above. ordered_same r l l' a.queries a.places (h.in_order apart above);
      tidy = a.tidy;
      kept = kept_then h.kept a.kept;
    }
