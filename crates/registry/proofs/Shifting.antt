-- How a place is put among those by ascending number: each behind it is carried one place on. The list on the way is
-- the one that was lent with the first j of the new places.
-- Assumes nothing.
use Rattle.std.proofs.Common.{◌≡◌, ℕ, suc, ◌+◌, ◌-◌, ◌<◌, ◌≤◌, List, ◌∷◌, ◌++◌, length, get_or, take, drop, set, sym, ap, ◌∙◌, ap₂, append_assoc, add-one, arith, take-append-drop, length-take-le, get_or-drop, take_all, drop-cons, get_or-take, take-take, drop-drop, take_at, get_or-append-add}
use lib.Seq.{get_or_at, paste, paste-suc, length_paste_head}
use Rattle.registry.specs.Records.{record_limit, order_at, list_places, order}
use Rattle.registry.proofs.Ordering.{with_place_at, order-length, length-with_place}

-- ---- the places with one more behind the first r

-- the first r are as they were
take-with_place : (p r : ℕ) (ps : List ℕ) → r ≤ length ps → take r (with_place_at p r ps) ≡ take r ps
take-with_place p r ps h = take_at (take r ps) (p ∷ drop r ps) r (length-take-le r ps h)

-- then comes the new one
with_place-new : (p r : ℕ) (ps : List ℕ) → r ≤ length ps → get_or (with_place_at p r ps) r 0 ≡ p
with_place-new p r ps h = get_or_at (take r ps) p (drop r ps) 0 r (length-take-le r ps h)

-- and each of the others is one place later
with_place-later : (p r : ℕ) (ps : List ℕ) (j : ℕ) → r ≤ j → j < length ps → get_or (with_place_at p r ps) (j + 1) 0 ≡ get_or ps j 0
with_place-later p r ps j a b =
    let front : length (take r ps) ≡ r = length-take-le r ps (omega arith) in
    let at : j + 1 ≡ length (take r ps) + suc (j - r) = omega arith in
    let behind : r + (j - r) ≡ j = omega arith in
    ap (λ (n : ℕ). get_or (with_place_at p r ps) n 0) at
    ∙ get_or-append-add (take r ps) (p ∷ drop r ps) (suc (j - r)) 0
    ∙ get_or-drop r ps (j - r) 0
    ∙ ap (λ (n : ℕ). get_or ps n 0) behind

-- ---- the way there

module _ (k r : ℕ) (l : List ℕ) (c : k < record_limit) (w : list_places ≤ length l) (within : r ≤ k) where
  abbrev new : List ℕ
  new = with_place_at k r (order k l)

  sized : length (order k l) ≡ k
  sized = order-length k l (omega arith) w

  long : length new ≡ suc k
  long = length-with_place k r (order k l) ∙ ap suc sized

  -- nothing is moved yet
  pub shift_start : l ≡ paste l order_at new r
  shift_start =
      sym (take-append-drop order_at l)
      ∙ ap (λ (ps : List ℕ). take order_at l ++ ps) (sym (take-append-drop r (drop order_at l)) ∙ ap₂ (λ (a b : List ℕ). a ++ b) first (drop-drop r order_at l))
      ∙ sym (append_assoc (take order_at l) (take r new) (drop (order_at + r) l))
    where
      first : take r (drop order_at l) ≡ take r new
      first = sym (take-take r k (drop order_at l) within) ∙ sym (take-with_place k r (order k l) (rw sized within))

  pub carried_start : k ≡ get_or new r 0
  carried_start = sym (with_place-new k r (order k l) (rw sized within))

  module _ (j : ℕ) (m : List ℕ) (above : r ≤ j) (below : j ≤ k) (moved : m ≡ paste l order_at new j) where
    -- the place that is read is as it was, and is carried one place on
    pub carried_next : j + 1 ≤ k → get_or m (order_at + j) 0 ≡ get_or new (j + 1) 0
    carried_next h =
        ap (λ (n : List ℕ). get_or n (order_at + j) 0) moved
        ∙ ap (λ (n : List ℕ). get_or (take order_at l ++ take j new ++ n) (order_at + j) 0) (drop-cons l (order_at + j) 0 (omega arith))
        ∙ get_or_at (take order_at l ++ take j new) (get_or l (order_at + j) 0) (drop (suc (order_at + j)) l) 0 (order_at + j) (length_paste_head l order_at new j (omega arith) (rw long (omega arith)))
        ∙ sym (get_or-drop order_at l j 0)
        ∙ sym (get_or-take k (drop order_at l) j 0 (omega arith))
        ∙ sym (with_place-later k r (order k l) j above (rw sized (omega arith)))

    -- what is carried is put
    pub shift_next : (carried : ℕ) → carried ≡ get_or new j 0 → set m (order_at + j) carried ≡ paste l order_at new (j + 1)
    shift_next carried e =
        ap₂ (λ (n : List ℕ) (a : ℕ). set n (order_at + j) a) moved e
        ∙ paste-suc l order_at new j 0 (omega arith) (rw long (omega arith))
        ∙ ap (paste l order_at new) (sym (add-one j))

  -- all are moved
  pub shift_done : (j : ℕ) (m : List ℕ) → k < j → j ≤ k + 1 → m ≡ paste l order_at new j → m ≡ take order_at l ++ new ++ drop (order_at + suc k) l
  shift_done j m above below e =
      let all : j ≡ suc k = omega arith in
      e ∙ ap (paste l order_at new) all ∙ ap (λ (ps : List ℕ). take order_at l ++ ps ++ drop (order_at + suc k) l) (take_all (suc k) new (omega (arith, long)))
