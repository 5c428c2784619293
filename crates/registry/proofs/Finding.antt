-- A query is registered exactly where it has a place, and where it is looked for place by place.
-- Assumes nothing.
use Rattle.std.proofs.Common.{◌≡◌, ℕ, suc, ◌+◌, ◌<◌, Bool, true, false, cond, not, ◌||◌, ltb, Option, Some, None, List, [], ◌∷◌, length, drop, sym, refl, ap, ◌∙◌, arith, lt-ltb, ne_eqb}
use Rattle.std.proofs.lemmas.Bool.Decides.{nat_tests}
use Rattle.std.specs.List.{position_or_len}
use Rattle.std.specs.Option.{is_some, option_map}
use Rattle.window.specs.declared.query.Query.{Query}
use Rattle.window.specs.Refusals.{has_number, is_registered}
use Rattle.registry.specs.Records.{number_at, used, place_of}
use Rattle.registry.proofs.Scans.{rest_cons}

one_further : (n k : ℕ) → ltb n k ≡ ltb (1 + n) (suc k)
one_further n k = grind (arith, nat_tests)

-- the first place that has the number is among them
place_inside : (number : ℕ) (qs : List Query) → is_registered number qs ≡ ltb (position_or_len (has_number number) qs) (length qs)
place_inside number [] = refl
place_inside number (q ∷ qs) = by_test (has_number number q) (place_inside number qs)
  where
    by_test : (b : Bool) → is_registered number qs ≡ ltb (position_or_len (has_number number) qs) (length qs)
        → (b || is_registered number qs) ≡ ltb (cond (not b) (1 + position_or_len (has_number number) qs) 0) (suc (length qs))
    by_test true e = sym (lt-ltb 0 (suc (length qs)) (omega arith))
    by_test false e = e ∙ one_further (position_or_len (has_number number) qs) (length qs)

pub registered-at : (number : ℕ) (qs : List Query) → is_registered number qs ≡ is_some (place_of number qs)
registered-at number qs = place_inside number qs ∙ by_test (ltb (position_or_len (has_number number) qs) (length qs)) (position_or_len (has_number number) qs)
  where
    by_test : (b : Bool) (i : ℕ) → b ≡ is_some (cond b (Some i) None)
    by_test true i = refl
    by_test false i = refl

module _ (number k : ℕ) (l : List ℕ) where
  -- where the query is looked for from place i on
  abbrev pub place_from : ℕ → Option ℕ
  place_from i = option_map (λ (j : ℕ). i + j) (place_of number (drop i (used k l)))

  -- it does not stand at place i, and is looked for from the next place on
  pub place-next : (i : ℕ) → i < k → (number ≡ number_at l i → ⊥) → place_from i ≡ place_from (i + 1)
  place-next i inside e =
      ap (λ (qs : List Query). option_map (λ (j : ℕ). i + j) (place_of number qs)) (rest_cons k l i inside)
      ∙ rw (ne_eqb number (number_at l i) e) (further (position_or_len (has_number number) rest) (length rest))
    where
      rest : List Query
      rest = drop (i + 1) (used k l)

      further : (n m : ℕ) → option_map (λ (j : ℕ). i + j) (cond (ltb (1 + n) (suc m)) (Some (1 + n)) None) ≡ option_map (λ (j : ℕ). i + 1 + j) (cond (ltb n m) (Some n) None)
      further n m = rw (← one_further n m) (by_test (ltb n m))
        where
          by_test : (b : Bool) → option_map (λ (j : ℕ). i + j) (cond b (Some (1 + n)) None) ≡ option_map (λ (j : ℕ). i + 1 + j) (cond b (Some n) None)
          by_test true = ap Some (omega arith)
          by_test false = refl
