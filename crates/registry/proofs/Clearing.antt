-- What is left of the list once its records and places from the k-th on are 0.
-- Assumes nothing.
use Rattle.std.proofs.Common.{◌≡◌, ℕ, ◌+◌, ◌-◌, ◌*◌, ◌<◌, ◌≤◌, List, [], length, get_or, drop, replicate, sym, ap, ◌∙◌, subst, arith, rules, length-take, length-drop}
use Rattle.std.proofs.lemmas.List.{length-replicate, places}
use Rattle.std.proofs.lemmas.Slice.{drop-put_mid}
use borrow.Rule.Slice.PartMut.{put_mid, mid_of}
use Rattle.registry.specs.Records.{record_limit, query_numbers, order_at, list_places}
use Rattle.registry.specs.Edits.{Cleared}
use Rattle.registry.proofs.Laying.{records_alike, used-same, order_same, at-tidy}

-- ---- a list with 0 from a to b

abbrev zeroed : (a b : ℕ) → List ℕ → List ℕ
zeroed a b l = put_mid a (b - a) l (replicate (b - a) 0)

module _ (a b : ℕ) (l : List ℕ) (low : a ≤ b) (high : b ≤ length l) where
  filled : (xs : List ℕ) → xs ≡ replicate (length (mid_of a (b - a) l)) 0 → put_mid a (b - a) l xs ≡ zeroed a b l
  filled xs e = ap (put_mid a (b - a) l) (e ∙ ap (λ (n : ℕ). replicate n 0) whole)
    where
      whole : length (mid_of a (b - a) l) ≡ b - a
      whole = simp (length-take, length-drop) (omega arith)

  length-zeroed : length (zeroed a b l) ≡ length l
  length-zeroed = search (rules, places)

  zeroed_before : (j : ℕ) → j < a → get_or (zeroed a b l) j 0 ≡ get_or l j 0
  zeroed_before j h = search (rules, places)

  zeroed_there : (j : ℕ) → a ≤ j → j < b → get_or (zeroed a b l) j 0 ≡ 0
  zeroed_there j h i = search (rules, places)

  zeroed_behind : (j : ℕ) → b ≤ j → get_or (zeroed a b l) j 0 ≡ get_or l j 0
  zeroed_behind j h = search (rules, places)

  drop-zeroed : (j : ℕ) → b ≤ j → drop j (zeroed a b l) ≡ drop j l
  drop-zeroed j h = drop-put_mid a (b - a) l (replicate (b - a) 0) j (omega arith) (omega arith) (length-replicate (b - a) 0)

-- ---- the records and places from the k-th on

module _ (k : ℕ) (l : List ℕ) (few : k ≤ record_limit) (long : list_places ≤ length l) where
  abbrev records : List ℕ
  records = zeroed (query_numbers * k) order_at l

  abbrev cleared : List ℕ
  cleared = zeroed (order_at + k) list_places records

  as_long : length records ≡ length l
  as_long = length-zeroed (query_numbers * k) order_at l (omega arith) (omega arith)

  reaching : list_places ≤ length records
  reaching = omega (arith, as_long)

  -- a number before the k-th record
  record_kept : (j : ℕ) → j < query_numbers * k → get_or cleared j 0 ≡ get_or l j 0
  record_kept j h =
      zeroed_before (order_at + k) list_places records (omega arith) reaching j (omega arith) ∙ zeroed_before (query_numbers * k) order_at l (omega arith) (omega arith) j h

  -- one of a later record
  record_gone : (j : ℕ) → query_numbers * k ≤ j → j < order_at → get_or cleared j 0 ≡ 0
  record_gone j h i =
      zeroed_before (order_at + k) list_places records (omega arith) reaching j (omega arith) ∙ zeroed_there (query_numbers * k) order_at l (omega arith) (omega arith) j h i

  -- a place before the k-th
  place_kept : (j : ℕ) → j < k → get_or cleared (order_at + j) 0 ≡ get_or l (order_at + j) 0
  place_kept j h =
      zeroed_before (order_at + k) list_places records (omega arith) reaching (order_at + j) (omega arith)
      ∙ zeroed_behind (query_numbers * k) order_at l (omega arith) (omega arith) (order_at + j) (omega arith)

  all_cleared : Cleared k l cleared
  all_cleared =
      record {
        queries = used-same k l cleared (λ i h. records_alike i i l cleared (λ j b. record_kept (query_numbers * i + j) (omega arith)));
        places = order_same k l cleared few long same place_kept;
        tidy = at-tidy k cleared few (omega (arith, same))
            (record {
              records = λ i a b. records_alike 0 i [] cleared (λ j h. record_gone (query_numbers * i + j) (omega arith) (omega arith));
              order = λ i a b. zeroed_there (order_at + k) list_places records (omega arith) reaching (order_at + i) (omega arith) (omega arith);
            });
        kept = record {
          as_long = same;
          beyond = drop-zeroed (order_at + k) list_places records (omega arith) reaching list_places (omega arith) ∙ drop-zeroed (query_numbers * k) order_at l (omega arith) (omega arith) list_places (omega arith);
        };
      }
    where
      same : length cleared ≡ length l
      same = length-zeroed (order_at + k) list_places records (omega arith) reaching ∙ as_long

-- the same of what was put there, from the k-th record to where the places begin, and behind the k-th place
pub zeros_cleared : (k : ℕ) (l : List ℕ) → k ≤ record_limit → list_places ≤ length l → (b : ℕ) → b ≡ order_at → (xs ys : List ℕ)
    → xs ≡ replicate (length (mid_of (query_numbers * k) (b - query_numbers * k) l)) 0
    → ys ≡ replicate (length (mid_of (order_at + k) (list_places - (order_at + k)) (put_mid (query_numbers * k) (b - query_numbers * k) l xs))) 0
    → Cleared k l (put_mid (order_at + k) (list_places - (order_at + k)) (put_mid (query_numbers * k) (b - query_numbers * k) l xs) ys)
zeros_cleared k l few long b here xs ys e f =
    let m : List ℕ = put_mid (query_numbers * k) (b - query_numbers * k) l xs in
    let first : m ≡ records k l few long = filled (query_numbers * k) b l (omega arith) (omega arith) xs e ∙ ap (λ (n : ℕ). zeroed (query_numbers * k) n l) here in
    let second : put_mid (order_at + k) (list_places - (order_at + k)) m ys ≡ zeroed (order_at + k) list_places m =
    filled (order_at + k) list_places m (omega arith) (rw first (reaching k l few long)) ys f in
    subst (Cleared k l) (sym (second ∙ ap (zeroed (order_at + k) list_places) first)) (all_cleared k l few long)
