-- Laws of scanning a line: the fields from a position on are the one there and those behind it.
-- Assumes nothing.
use Rattle.std.proofs.Common.{◌≡◌, ℕ, ◌+◌, ◌-◌, ◌<◌, ◌≤◌, Bool, false, not, eqb, ◌⊎◌, List, [], ◌∷◌, length, get_or, take, drop, Option, None, position, unwrap_or, sym, ap, ◌∙◌, inl, inr, arith}
use Rattle.std.specs.List.{position_or_len, slice_range}
use Rattle.std.proofs.lemmas.Bool.{cases_lt, lt-ltb, le-ltb, not-true}
use Rattle.std.proofs.lemmas.List.{length-drop, drop-drop, take_all, take_rest}
use Rattle.std.proofs.lemmas.Option.{none-some}
use Rattle.std.proofs.lemmas.List.Splits.{slice_split_none, slice_split_first}
use Rattle.std.proofs.lemmas.List.Sums.{prefix_len_passes}
use Rattle.parse.specs.Fields.{parts, fields_from}

-- where a search finds nothing, no byte passes its test
pub none_found : (p : ℕ → Bool) (xs : List ℕ) → position p xs ≡ None → (k d : ℕ) → k < length xs → p (get_or xs k d) ≡ false
none_found p xs none k d h = go (cases_lt (position_or_len p xs) (length xs))
  where
    go : (position_or_len p xs < length xs) ⊎ (length xs ≤ position_or_len p xs) → p (get_or xs k d) ≡ false
    go (inl found) = absurd (none-some (position_or_len p xs) (sym none ∙ rw (lt-ltb (position_or_len p xs) (length xs) found)))
    go (inr all) = not-true (p (get_or xs k d)) (prefix_len_passes (λ x. not (p x)) xs k d (omega arith))

-- ---- the fields from a position on

-- beyond the line there is none
pub fields_beyond : (l : List ℕ) (at : ℕ) → length l < at → fields_from l at ≡ []
unfolding fields_from
fields_beyond l at h = rw (lt-ltb (length l) at h)

-- in it they are the parts of what stands there
fields_within : (l : List ℕ) (at : ℕ) → at ≤ length l → fields_from l at ≡ parts 9 (drop at l)
unfolding fields_from
fields_within l at h = rw (le-ltb (length l) at h)

-- the first ends at the next tab, or at the line's end
pub fields_first : (l rest : List ℕ) (at n : ℕ) {o : Option ℕ} → at ≤ length l → rest ≡ slice_range l at (length l) → o ≡ position (λ x. eqb x 9) rest → n ≡ unwrap_or o (length rest)
    → (n ≤ length rest) × (fields_from l at ≡ take n rest ∷ fields_from l (at + (n + 1)))
fields_first l rest at n h part p u = go (cases_lt m (length rest))
  where
    tab : ℕ → Bool
    tab x = eqb x 9

    m : ℕ
    m = position_or_len tab rest

    r : rest ≡ drop at l
    r = part ∙ take_rest l at

    e : n ≡ unwrap_or (position tab rest) (length rest)
    e = u ∙ ap (λ o. unwrap_or o (length rest)) p

    width : length rest ≡ length l - at
    width = ap length r ∙ length-drop at l

    here : fields_from l at ≡ parts 9 rest
    here = fields_within l at h ∙ ap (parts 9) (sym r)

    go : (m < length rest) ⊎ (length rest ≤ m) → (n ≤ length rest) × (fields_from l at ≡ take n rest ∷ fields_from l (at + (n + 1)))
    go (inl k) =
        let found : n ≡ m = rw (lt-ltb m (length rest) k) at e in
        let behind : drop (n + 1) rest ≡ drop (at + (n + 1)) l = ap (drop (n + 1)) r ∙ drop-drop (n + 1) at l in
        let more : fields_from l (at + (n + 1)) ≡ parts 9 (drop (n + 1) rest) = fields_within l (at + (n + 1)) (omega (arith, width)) ∙ ap (parts 9) (sym behind) in
        (omega arith, here ∙ rw (more, found) (slice_split_first tab rest 0 k))
    go (inr k) =
        let none : n ≡ length rest = rw (le-ltb m (length rest) k) at e in
        let plain = none_found tab rest (rw (le-ltb m (length rest) k)) in
        (omega arith, here ∙ rw (fields_beyond l (at + (n + 1)) (omega (arith, width)), none, take_all (length rest) rest (omega arith)) (slice_split_none tab rest plain))
