-- The records that are left after a withdrawal: moved to the front of the used ones, and unused ones behind them.
-- Assumes nothing.
use borrow.Rule.Slice.PartMut.{put_mid}
use Rattle.std.proofs.Common.{◌≡◌, ℕ, suc, ◌+◌, ◌-◌, ◌≤◌, ◌<◌, min, true, List, [], ◌∷◌, ◌++◌, length, take, drop, set, replicate, refl, sym, ap, ap₂, ◌∙◌, arith, append_assoc, length-append, length-take, length-take-le, take_all, take-take, drop-drop}
use Rattle.std.proofs.Math.Seq.{take-append-add}
use Rattle.std.proofs.lemmas.List.{set_at, take-replicate, take-append-le, take_min}
use Rattle.std.proofs.lemmas.Slice.{drop-append-drop}
use Rattle.window.specs.declared.query.Query.{Query}
use Rattle.window.specs.Refusals.{is_registered}
use Rattle.registry.specs.Records.{record_limit, unused}
use Rattle.records.specs.LentList.{used_of, without, filled_up, overwritten, withdrawn, withdrawn_count}
use Rattle.records.proofs.Lists.{array_parts}
use Rattle.records.proofs.Editing.{filled-length}

-- the used records are those in the first places, as many as `fitting` counts
pub used_part : (xs : List Query) (count : ℕ) → take (min (min (length xs) record_limit) count) xs ≡ used_of count xs
used_part xs count =
    let e : min count (length (take record_limit xs)) ≡ min (min (length xs) record_limit) count = simp length-take (omega arith) in
    ap (λ (n : ℕ). take n xs) (sym e) ∙ sym (take-take (min count (length (take record_limit xs))) record_limit xs (omega arith)) ∙ take_min count (take record_limit xs)

-- a record set behind these, which are filled up, joins them
pub filled-joined : (qs : List Query) (q : Query) → length qs < record_limit → set (filled_up qs) (length qs) q ≡ filled_up (qs ++ (q ∷ []))
filled-joined qs q l =
    ap (λ (k : ℕ). set (qs ++ replicate k unused) (length qs) q) more
    ∙ set_at qs unused (replicate (record_limit - (length qs + 1)) unused) q (length qs) refl
    ∙ sym (ap (λ (k : ℕ). (qs ++ (q ∷ [])) ++ replicate k unused) fewer ∙ append_assoc qs (q ∷ []) (replicate (record_limit - (length qs + 1)) unused))
  where
    more : record_limit - length qs ≡ suc (record_limit - (length qs + 1))
    more = omega arith

    fewer : record_limit - length (qs ++ (q ∷ [])) ≡ record_limit - (length qs + 1)
    fewer = ap (λ (k : ℕ). record_limit - k) (length-append qs (q ∷ []))

-- these records, and behind them unused ones in as many of the first 32 places as the list has
filled_parts : (qs xs : List Query) (places : ℕ) → places ≡ min (length xs) record_limit → length qs ≤ places → qs ++ (replicate (places - length qs) unused ++ drop places xs) ≡ overwritten (filled_up qs) xs
filled_parts qs xs places e l =
    sym (append_assoc qs (replicate (places - length qs) unused) (drop places xs))
    ∙ ap (λ (front : List Query). front ++ drop places xs) (sym fitting)
    ∙ ap (λ (n : ℕ). take n (filled_up qs) ++ drop n xs) capped
    ∙ sym (array_parts record_limit (filled_up qs) xs whole)
    ∙ ap (λ (ys : List Query). overwritten ys xs) (take_all record_limit (filled_up qs) (omega (arith, whole)))
  where
    at : places ≡ length qs + (places - length qs)
    at = omega arith

    fitting : take places (filled_up qs) ≡ qs ++ replicate (places - length qs) unused
    fitting =
        ap (λ (n : ℕ). take n (filled_up qs)) at
        ∙ take-append-add qs (replicate (record_limit - length qs) unused) (places - length qs)
        ∙ ap (λ (rest : List Query). qs ++ rest) (take-replicate (places - length qs) (record_limit - length qs) unused (omega arith))

    capped : places ≡ min (min (length xs) record_limit) record_limit
    capped = omega arith

    whole : length (filled_up qs) ≡ record_limit
    whole = filled-length qs (omega arith)

module _ (number count : ℕ) (xs : List Query) (there : is_registered number (used_of count xs) ≡ true) (used places kept : ℕ) (u : used ≡ min (min (length xs) record_limit) count) (p : places ≡ min (length xs) record_limit) where
  -- ys are the used records, of which those that are left, kept in number, have moved to the front. With unused records
  -- behind these, up to the 32nd, the list is as after a withdrawal
  pub withdrawn_parts : (ys : List Query) → length ys ≡ length (take used xs) → kept ≤ length (take used xs) → take kept ys ≡ without number (take used xs)
      → (kept ≡ withdrawn_count number count xs) × (put_mid kept (places - kept) (ys ++ drop used xs) (replicate (places - kept) unused) ≡ withdrawn number count xs)
  withdrawn_parts ys l f r =
      rw there (sym size, ap₂ ◌++◌ front (ap₂ ◌++◌ (ap (λ (n : ℕ). replicate (places - n) unused) (sym size)) behind) ∙ filled_parts left xs places p (omega (arith, size, length-take {A = Query})))
    where
      left : List Query
      left = without number (used_of count xs)

      is : take kept ys ≡ left
      is = r ∙ ap (without number) (ap (λ (n : ℕ). take n xs) u ∙ used_part xs count)

      size : length left ≡ kept
      size = ap length (sym is) ∙ length-take-le kept ys (omega arith)

      front : take kept (ys ++ drop used xs) ≡ left
      front = take-append-le kept ys (drop used xs) (omega arith) ∙ is

      behind : drop (places - kept) (drop kept (ys ++ drop used xs)) ≡ drop places xs
      behind =
          let e : kept + (places - kept) ≡ places = omega (arith, length-take {A = Query}) in
          drop-drop (places - kept) kept (ys ++ drop used xs) ∙ ap (λ (n : ℕ). drop n (ys ++ drop used xs)) e
          ∙ drop-append-drop used xs ys places (omega arith) (omega (arith, length-take {A = Query}))
