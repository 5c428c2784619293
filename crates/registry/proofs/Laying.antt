-- The list's views after a store: what its records, its places by ascending number and the numbers beyond it are once a
-- record is written, or the places are put anew.
-- Assumes nothing.
use Rattle.std.proofs.Common.{◌≡◌, ℕ, ◌+◌, ◌-◌, ◌*◌, ◌<◌, ◌≤◌, ◌≢◌, List, ◌++◌, length, get_or, take, drop, set, sym, refl, ap, ◌∙◌, subst, append_assoc, arith, length-append, length-drop, length-set, length-take-le, get_or-drop, get_or-set_other, get_or-take, get_or-set_same, drop-drop, take_at, drop-set-lt, drop_at}
use lib.ListN.{get_or-append}
use lib.Seq.{set-get_or}
use Rattle.window.specs.declared.query.Query.{Query}
use Rattle.registry.specs.Records.{record_limit, query_numbers, order_at, list_places, number_at, record_at, used, with_record, order, unused, Tidy, ListKept}
use Rattle.registry.proofs.Tabulating.{tabulate_cong, tabulate-same, same_tabulated, part_tabulate}

-- ---- records by their numbers

-- the five numbers of a record at i in l' and at h in l are the same
pub records_alike : (h i : ℕ) (l l' : List ℕ) → ((j : ℕ) → j < query_numbers → get_or l' (query_numbers * i + j) 0 ≡ get_or l (query_numbers * h + j) 0) → record_at l' i ≡ record_at l h
records_alike h i l l' e =
    let first : number_at l' i ≡ number_at l h = ap (λ (n : ℕ). get_or l' n 0) (here i) ∙ e 0 (omega arith) ∙ ap (λ (n : ℕ). get_or l n 0) (sym (here h)) in
    let kind : get_or l' (query_numbers * i + 1) 0 ≡ get_or l (query_numbers * h + 1) 0 = e 1 (omega arith) in
    let range : get_or l' (query_numbers * i + 2) 0 ≡ get_or l (query_numbers * h + 2) 0 = e 2 (omega arith) in
    let slide : get_or l' (query_numbers * i + 3) 0 ≡ get_or l (query_numbers * h + 3) 0 = e 3 (omega arith) in
    let origin : get_or l' (query_numbers * i + 4) 0 ≡ get_or l (query_numbers * h + 4) 0 = e 4 (omega arith) in
    cc
  where
    here : (n : ℕ) → query_numbers * n ≡ query_numbers * n + 0
    here n = omega arith

-- ---- five stores

-- a number at another place than those of five stores is as it was
five_other : (l : List ℕ) (a b c d e v w x y z j : ℕ) → j ≢ a → j ≢ b → j ≢ c → j ≢ d → j ≢ e
    → get_or (set (set (set (set (set l a v) b w) c x) d y) e z) j 0 ≡ get_or l j 0
five_other l a b c d e v w x y z j na nb nc nd ne =
    get_or-set_other (set (set (set (set l a v) b w) c x) d y) e j z 0 ne
    ∙ get_or-set_other (set (set (set l a v) b w) c x) d j y 0 nd
    ∙ get_or-set_other (set (set l a v) b w) c j x 0 nc
    ∙ get_or-set_other (set l a v) b j w 0 nb
    ∙ get_or-set_other l a j v 0 na

-- ---- a record is written

pub record-length : (i : ℕ) (q : Query) (l : List ℕ) → length (with_record i q l) ≡ length l
record-length i q l = simp length-set

-- the numbers that belong to no record are as they were
pub record-past : (i : ℕ) (q : Query) (l : List ℕ) → i < record_limit → drop order_at (with_record i q l) ≡ drop order_at l
record-past i q l h =
    drop-set-lt order_at (set (set (set (set l (query_numbers * i) q.number) (query_numbers * i + 1) q.kind) (query_numbers * i + 2) q.range) (query_numbers * i + 3) q.slide) (query_numbers * i + 4) q.origin (omega arith)
    ∙ drop-set-lt order_at (set (set (set l (query_numbers * i) q.number) (query_numbers * i + 1) q.kind) (query_numbers * i + 2) q.range) (query_numbers * i + 3) q.slide (omega arith)
    ∙ drop-set-lt order_at (set (set l (query_numbers * i) q.number) (query_numbers * i + 1) q.kind) (query_numbers * i + 2) q.range (omega arith)
    ∙ drop-set-lt order_at (set l (query_numbers * i) q.number) (query_numbers * i + 1) q.kind (omega arith)
    ∙ drop-set-lt order_at l (query_numbers * i) q.number (omega arith)

-- a number at no place of record i is as it was
pub record-at : (i : ℕ) (q : Query) (l : List ℕ) (j : ℕ) → j ≢ query_numbers * i → j ≢ query_numbers * i + 1 → j ≢ query_numbers * i + 2 → j ≢ query_numbers * i + 3 → j ≢ query_numbers * i + 4
    → get_or (with_record i q l) j 0 ≡ get_or l j 0
record-at i q l j = five_other l (query_numbers * i) (query_numbers * i + 1) (query_numbers * i + 2) (query_numbers * i + 3) (query_numbers * i + 4) q.number q.kind q.range q.slide q.origin j

-- the other records are as they were
pub record-other : (i : ℕ) (q : Query) (l : List ℕ) (j : ℕ) → i < record_limit → j < record_limit → j ≢ i → record_at (with_record i q l) j ≡ record_at l j
record-other i q l j h m n =
    records_alike j j l (with_record i q l)
    (λ p b. record-at i q l (query_numbers * j + p) (λ e. n (omega arith)) (λ e. n (omega arith)) (λ e. n (omega arith)) (λ e. n (omega arith)) (λ e. n (omega arith)))

-- the record is the one that was written
pub record_same : (i : ℕ) (q : Query) (l : List ℕ) → i < record_limit → list_places ≤ length l → record_at (with_record i q l) i ≡ q
record_same i q l h w =
    let l₁ : List ℕ = set l (query_numbers * i) q.number in
    let l₂ : List ℕ = set l₁ (query_numbers * i + 1) q.kind in
    let l₃ : List ℕ = set l₂ (query_numbers * i + 2) q.range in
    let l₄ : List ℕ = set l₃ (query_numbers * i + 3) q.slide in
    let number : number_at (with_record i q l) i ≡ q.number =
    get_or-set_other l₄ (query_numbers * i + 4) (query_numbers * i) q.origin 0 (λ e. omega arith)
    ∙ get_or-set_other l₃ (query_numbers * i + 3) (query_numbers * i) q.slide 0 (λ e. omega arith)
    ∙ get_or-set_other l₂ (query_numbers * i + 2) (query_numbers * i) q.range 0 (λ e. omega arith)
    ∙ get_or-set_other l₁ (query_numbers * i + 1) (query_numbers * i) q.kind 0 (λ e. omega arith)
    ∙ get_or-set_same l (query_numbers * i) q.number 0 (omega arith) in
    let kind : get_or (with_record i q l) (query_numbers * i + 1) 0 ≡ q.kind =
    get_or-set_other l₄ (query_numbers * i + 4) (query_numbers * i + 1) q.origin 0 (λ e. omega arith)
    ∙ get_or-set_other l₃ (query_numbers * i + 3) (query_numbers * i + 1) q.slide 0 (λ e. omega arith)
    ∙ get_or-set_other l₂ (query_numbers * i + 2) (query_numbers * i + 1) q.range 0 (λ e. omega arith)
    ∙ get_or-set_same l₁ (query_numbers * i + 1) q.kind 0 (simp length-set (omega arith)) in
    let range : get_or (with_record i q l) (query_numbers * i + 2) 0 ≡ q.range =
    get_or-set_other l₄ (query_numbers * i + 4) (query_numbers * i + 2) q.origin 0 (λ e. omega arith)
    ∙ get_or-set_other l₃ (query_numbers * i + 3) (query_numbers * i + 2) q.slide 0 (λ e. omega arith)
    ∙ get_or-set_same l₂ (query_numbers * i + 2) q.range 0 (simp length-set (omega arith)) in
    let slide : get_or (with_record i q l) (query_numbers * i + 3) 0 ≡ q.slide =
    get_or-set_other l₄ (query_numbers * i + 4) (query_numbers * i + 3) q.origin 0 (λ e. omega arith)
    ∙ get_or-set_same l₃ (query_numbers * i + 3) q.slide 0 (simp length-set (omega arith)) in
    let origin : get_or (with_record i q l) (query_numbers * i + 4) 0 ≡ q.origin =
    get_or-set_same l₄ (query_numbers * i + 4) q.origin 0 (simp length-set (omega arith)) in
    λ t. record { number = number t; kind = kind t; range = range t; slide = slide t; origin = origin t }

-- a record that is written where it stands changes nothing
pub record-still : (k : ℕ) (l : List ℕ) → with_record k (record_at l k) l ≡ l
record-still k l =
    rw (set-get_or l (query_numbers * k) 0, set-get_or l (query_numbers * k + 1) 0, set-get_or l (query_numbers * k + 2) 0, set-get_or l (query_numbers * k + 3) 0, set-get_or l (query_numbers * k + 4) 0)

-- ---- the places are put anew

-- the list with these numbers in place of the first m places by ascending number
abbrev pub with_order : ℕ → List ℕ → List ℕ → List ℕ
with_order m ws l = take order_at l ++ ws ++ drop (order_at + m) l

module _ (m : ℕ) (ws l : List ℕ) (sized : length ws ≡ m) (room : order_at + m ≤ length l) where
  head_length : length (take order_at l ++ ws) ≡ order_at + m
  head_length = length-append (take order_at l) ws ∙ rw (length-take-le order_at l (omega arith), sized)

  pub with_order-length : length (with_order m ws l) ≡ length l
  with_order-length = length-append (take order_at l ++ ws) (drop (order_at + m) l) ∙ rw (head_length, length-drop (order_at + m) l) (omega arith)

  -- a number before the places is as it was
  pub with_order-before : (j : ℕ) → j < order_at → get_or (with_order m ws l) j 0 ≡ get_or l j 0
  with_order-before j h =
      let whole : length (take order_at l) ≡ order_at = length-take-le order_at l (omega arith) in
      get_or-append (take order_at l ++ ws) (drop (order_at + m) l) 0 j (rw head_length (omega arith))
      ∙ get_or-append (take order_at l) ws 0 j (omega arith)
      ∙ get_or-take order_at l j 0 h

  -- so is every record
  pub with_order_record : (j : ℕ) → j < record_limit → record_at (with_order m ws l) j ≡ record_at l j
  with_order_record j h = records_alike j j l (with_order m ws l) (λ p b. with_order-before (query_numbers * j + p) (omega arith))

  -- the first m places are those put
  pub with_order-order : order m (with_order m ws l) ≡ ws
  with_order-order =
      ap (λ (r : List ℕ). take m (drop order_at r)) (append_assoc (take order_at l) ws (drop (order_at + m) l))
      ∙ ap (take m) (drop_at (take order_at l) (ws ++ drop (order_at + m) l) order_at (length-take-le order_at l (omega arith)))
      ∙ take_at ws (drop (order_at + m) l) m sized

  -- what comes behind them is as it was
  pub with_order_past : drop (order_at + m) (with_order m ws l) ≡ drop (order_at + m) l
  with_order_past = drop_at (take order_at l ++ ws) (drop (order_at + m) l) (order_at + m) head_length

-- ---- the same, number by number

-- what is the same from i on is the same from j on
pub same-later : (i j : ℕ) (l l' : List ℕ) → i ≤ j → drop i l' ≡ drop i l → drop j l' ≡ drop j l
same-later i j l l' h e = ap (λ (n : ℕ). drop n l') is ∙ sym (drop-drop (j - i) i l') ∙ ap (drop (j - i)) e ∙ drop-drop (j - i) i l ∙ ap (λ (n : ℕ). drop n l) (sym is)
  where
    is : j ≡ i + (j - i)
    is = omega arith

-- and so is the number at j
pub same_at : (i j : ℕ) (l l' : List ℕ) → i ≤ j → drop i l' ≡ drop i l → get_or l' j 0 ≡ get_or l j 0
same_at i j l l' h e = ap (λ (n : ℕ). get_or l' n 0) is ∙ sym (get_or-drop i l' (j - i) 0) ∙ ap (λ (r : List ℕ). get_or r (j - i) 0) e ∙ get_or-drop i l (j - i) 0 ∙ ap (λ (n : ℕ). get_or l n 0) (sym is)
  where
    is : j ≡ i + (j - i)
    is = omega arith

-- the used records are the same where each is
pub used-same : (k : ℕ) (l l' : List ℕ) → ((i : ℕ) → i < k → record_at l' i ≡ record_at l i) → used k l' ≡ used k l
used-same k l l' h = tabulate_cong (record_at l') (record_at l) 0 k (λ j a b. h j (omega arith))

-- and so are the places
pub order_same : (k : ℕ) (l l' : List ℕ) → k ≤ record_limit → list_places ≤ length l → length l' ≡ length l
    → ((i : ℕ) → i < k → get_or l' (order_at + i) 0 ≡ get_or l (order_at + i) 0) → order k l' ≡ order k l
order_same k l l' c w e h =
    part_tabulate l' 0 order_at k (omega arith)
    ∙ tabulate_cong (λ (j : ℕ). get_or l' j 0) (λ (j : ℕ). get_or l j 0) order_at k (λ j a b. subst (λ (n : ℕ). get_or l' n 0 ≡ get_or l n 0) (is j a) (h (j - order_at) (omega arith)))
    ∙ sym (part_tabulate l 0 order_at k (omega arith))
  where
    is : (j : ℕ) → order_at ≤ j → order_at + (j - order_at) ≡ j
    is j a = omega arith

-- ---- unused places

-- what `Tidy` says, of each place
pub record TidyAt (k : ℕ) (l : List ℕ) : Type 0 where
  pub records : (i : ℕ) → k ≤ i → i < record_limit → record_at l i ≡ unused
  pub order : (i : ℕ) → k ≤ i → i < record_limit → get_or l (order_at + i) 0 ≡ 0

pub tidy-at : (k : ℕ) (l : List ℕ) → k ≤ record_limit → list_places ≤ length l → Tidy k l → TidyAt k l
tidy-at k l c w t =
    record {
      records = λ i a b. ap (record_at l) (is i a) ∙ same_tabulated (record_at l) unused k (record_limit - k) (i - k) (omega arith) t.records;
      order = λ i a b.
          ap (λ (n : ℕ). get_or l n 0) (of i a)
          ∙ same_tabulated (λ (j : ℕ). get_or l j 0) 0 (order_at + k) (record_limit - k) (i - k) (omega arith) (sym (part_tabulate l 0 (order_at + k) (record_limit - k) (omega arith)) ∙ t.order);
    }
  where
    is : (i : ℕ) → k ≤ i → i ≡ k + (i - k)
    is i a = omega arith

    of : (i : ℕ) → k ≤ i → order_at + i ≡ order_at + k + (i - k)
    of i a = omega arith

pub at-tidy : (k : ℕ) (l : List ℕ) → k ≤ record_limit → list_places ≤ length l → TidyAt k l → Tidy k l
at-tidy k l c w t =
    record {
      records = tabulate-same (record_at l) unused k (record_limit - k) (λ j a b. t.records j a (omega arith));
      order = part_tabulate l 0 (order_at + k) (record_limit - k) (omega arith)
          ∙ tabulate-same (λ (j : ℕ). get_or l j 0) 0 (order_at + k) (record_limit - k) (λ j a b. ap (λ (n : ℕ). get_or l n 0) (of j a) ∙ t.order (j - order_at) (omega arith) (omega arith));
    }
  where
    of : (j : ℕ) → order_at + k ≤ j → j ≡ order_at + (j - order_at)
    of j a = omega arith

-- ---- the numbers beyond

pub kept_same : (l : List ℕ) → ListKept l l
kept_same l = record { as_long = refl; beyond = refl }

pub kept_then : {l l' l'' : List ℕ} → ListKept l l' → ListKept l' l'' → ListKept l l''
kept_then h k = record { as_long = k.as_long ∙ h.as_long; beyond = k.beyond ∙ h.beyond }
