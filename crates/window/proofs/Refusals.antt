-- The laws of the checks: what two runs of them come to, that the fields which pass are those within the limits, and
-- what holds of a call that passes.
-- Assumes nothing.
use Rattle.std.specs.Prelude.{Ok, Err}
use mathlib.Core.Path.{◌≡◌, refl, sym, ap, subst}
use mathlib.Core.Bool.{Bool, true, false, cond}
use mathlib.Core.List.{List, [], ◌∷◌, ◌++◌}
use Prim.Native.Nat.{ℕ, ◌+◌, ◌*◌, ◌≤◌, ◌<◌}
use native.Mathlib.Omega.{arith}
use lib.Dec.{leb}
use lib.ListN.{length}
use borrow.Author.Tests.{leb-true, leb-false, le-leb, ltb-false, not-false}
use Rattle.window.specs.declared.query.Query.{Query}
use Rattle.window.specs.declared.refusal.Refusal.{Refusal}
use Rattle.window.specs.declared.refusal.Refusal.TheVariants.{TableTooShort}
use Rattle.window.specs.Lists.{any, Each}
use Rattle.window.specs.Queries.{Limits, number_limit, kind_limit, length_limit, query_limit, count_limit}
use Rattle.window.specs.Refusals.{Verdict, Check, first_refusal, within, applying, is_registered, due_at, answer_places, name_checks, length_checks, field_checks, list_checks, register_checks, count_checks, places_checks, reading_checks, reading_checks_at}
use Rattle.window.proofs.Lists.{and_left, and_right, or_neither, not_left, not_right}

-- a check of the list does not apply
abbrev NotApplying : Check → Type 0
NotApplying c = c.applies ≡ false

-- no verdict refuses and passes
pub refused_passed : {X : Type 0} (r : Refusal) → ◌≡◌ {A = Verdict} (Err r) (Ok tt) → X
refused_passed r e = let z : ◌≡◌ {A = ℕ} 0 1 = cc in absurd (omega arith)

-- the refusal that a verdict gives
abbrev refusal_in : Verdict → Refusal
refusal_in (Ok _) = TableTooShort
refusal_in (Err r) = r

pub refused-same : (r r' : Refusal) → ◌≡◌ {A = Verdict} (Err r) (Err r') → r ≡ r'
refused-same r r' e = ap refusal_in e

-- what holds of every check's refusal holds of the one that is given
pub refusal_each : (P : Refusal → Type 0) (cs : List Check) → Each (λ (c : Check). P c.refusal) cs → (r : Refusal) → first_refusal cs ≡ Err r → P r
refusal_each P [] h r e = refused_passed r (sym e)
refusal_each P (c ∷ cs) h r e = go c.applies e (λ k. refusal_each P cs h.1 r k)
  where
    go : (b : Bool) → cond b (Err c.refusal) (first_refusal cs) ≡ Err r → (first_refusal cs ≡ Err r → P r) → P r
    go true k later = subst P (refused-same c.refusal r k) h.0
    go false k later = later k

-- where the checks pass, none applies
passed_each : (cs : List Check) → first_refusal cs ≡ Ok tt → Each NotApplying cs
passed_each [] e = tt
passed_each (c ∷ cs) e = go c.applies e (λ k. passed_each cs k)
  where
    go : (b : Bool) → cond b (Err c.refusal) (first_refusal cs) ≡ Ok tt → (first_refusal cs ≡ Ok tt → Each NotApplying cs) → (b ≡ false) × Each NotApplying cs
    go true k ih = refused_passed c.refusal k
    go false k ih = (refl, ih k)

-- the checks pass exactly where none applies, as `any` tests it
pub passed_any : (cs : List Check) → first_refusal cs ≡ Ok tt → any applying cs ≡ false
passed_any [] e = refl
passed_any (c ∷ cs) e =
    let a = passed_each (c ∷ cs) e in
    or_neither c.applies (any applying cs) a.0 (passed_any cs (rw a.0 at e))

pub any_passed : (cs : List Check) → any applying cs ≡ false → first_refusal cs ≡ Ok tt
any_passed [] e = refl
any_passed (c ∷ cs) e = rw (not_left c.applies (any applying cs) e) (any_passed cs (not_right c.applies (any applying cs) e))

-- ---- two runs of checks, one after the other

-- where the first passes, the second decides
pub passed_then : (cs ds : List Check) → any applying cs ≡ false → first_refusal (cs ++ ds) ≡ first_refusal ds
passed_then [] ds e = refl
passed_then (c ∷ cs) ds e = rw (not_left c.applies (any applying cs) e) (passed_then cs ds (not_right c.applies (any applying cs) e))

-- where the first refuses, that decides
pub refused_then : (cs ds : List Check) (r : Refusal) → first_refusal cs ≡ Err r → first_refusal (cs ++ ds) ≡ Err r
refused_then [] ds r e = refused_passed r (sym e)
refused_then (c ∷ cs) ds r e = go c.applies e (refused_then cs ds r)
  where
    go : (b : Bool) → cond b (Err c.refusal) (first_refusal cs) ≡ Err r → (first_refusal cs ≡ Err r → first_refusal (cs ++ ds) ≡ Err r)
        → cond b (Err c.refusal) (first_refusal (cs ++ ds)) ≡ Err r
    go true k ih = k
    go false k ih = ih k

-- ---- fields

within_low : (low high x : ℕ) → within low high x ≡ true → low ≤ x
within_low low high x h = leb-true low x (and_left (leb low x) (leb x high) h)

within_high : (low high x : ℕ) → within low high x ≡ true → x ≤ high
within_high low high x h = leb-true x high (and_right (leb low x) (leb x high) h)

within_both : (low high x : ℕ) → low ≤ x → x ≤ high → within low high x ≡ true
within_both low high x l h = rw (le-leb low x l, le-leb x high h)

-- what the checks of the fields leave
fields_within : (q : Query) → Each NotApplying (field_checks q.number q.kind q.range q.slide) → Limits q
unfolding name_checks length_checks field_checks
fields_within q a =
    let number = not-false _ a.0 in
    let kind = not-false _ a.1.0 in
    let range = not-false _ a.1.1.0 in
    let slide = not-false _ a.1.1.1.0 in
    record {
      number_low = within_low 1 number_limit q.number number;
      number_high = within_high 1 number_limit q.number number;
      kind_low = within_low 1 kind_limit q.kind kind;
      kind_high = within_high 1 kind_limit q.kind kind;
      range_low = within_low 1 length_limit q.range range;
      range_high = within_high 1 length_limit q.range range;
      slide_low = within_low 1 length_limit q.slide slide;
      slide_high = within_high 1 length_limit q.slide slide;
    }

-- the checks of the fields, and so `check_fields`, pass exactly the fields within the limits
pub fields_passed : (q : Query) → first_refusal (field_checks q.number q.kind q.range q.slide) ≡ Ok tt → Limits q
fields_passed q e = fields_within q (passed_each (field_checks q.number q.kind q.range q.slide) e)

pub limits-any : (q : Query) → Limits q → any applying (field_checks q.number q.kind q.range q.slide) ≡ false
unfolding name_checks length_checks field_checks
limits-any q g =
    rw (
      within_both 1 number_limit q.number g.number_low g.number_high,
      within_both 1 kind_limit q.kind g.kind_low g.kind_high,
      within_both 1 length_limit q.range g.range_low g.range_high,
      within_both 1 length_limit q.slide g.slide_low g.slide_high,
    )

-- ---- a registration and a reading

-- q can join the list
pub record Joins (qs : List Query) (q : Query) : Type 0 where
  pub limits : Limits q
  pub new : is_registered q.number qs ≡ false
  pub room : length qs < query_limit

pub register_passed : (qs : List Query) (q : Query) → first_refusal (register_checks qs q.number q.kind q.range q.slide) ≡ Ok tt → Joins qs q
unfolding register_checks name_checks length_checks field_checks list_checks
register_passed qs q e =
    let a = passed_each (register_checks qs q.number q.kind q.range q.slide) e in
    record {
      limits = fields_within q (a.0, (a.1.0, (a.1.1.0, (a.1.1.1.0, tt))));
      new = a.1.1.1.1.0;
      room = leb-false query_limit (length qs) a.1.1.1.1.1.0;
    }

-- a count that passes is below the limit
pub count_passed : (limit n : ℕ) → first_refusal (count_checks limit n) ≡ Ok tt → n < limit
unfolding count_checks
count_passed limit n e = leb-false limit n (passed_each (count_checks limit n) e).0

-- a reading that passes can be counted, and its answers have room
pub record Counts (n : ℕ) (qs : List Query) (places : ℕ) : Type 0 where
  pub room : n < count_limit
  pub answers_fit : answer_places * length (due_at (n + 1) qs) ≤ places

pub reading_passed : (n : ℕ) (qs : List Query) (places : ℕ) → first_refusal (reading_checks n qs places) ≡ Ok tt → Counts n qs places
unfolding count_checks places_checks reading_checks_at
reading_passed n qs places e =
    let a = passed_each (reading_checks n qs places) e in
    record { room = leb-false count_limit n a.0; answers_fit = ltb-false places _ a.1.0 }
