-- How the closed partials stay tiled from every place where a window can begin or end, as readings come, partials close
-- and queries join; and that an open partial is shorter than every slide (I5).
-- Assumes nothing.
use mathlib.Core.Path.{◌≡◌, refl, sym, ◌∙◌, subst}
use mathlib.Core.Bool.{true, false, true≢false}
use mathlib.Core.Option.{Option, none, some}
use mathlib.Core.List.{List, [], ◌∷◌, ◌++◌}
use Prim.Native.Nat.{ℕ, ◌+◌, ◌%◌, ◌≤◌, ◌<◌}
use native.Mathlib.Nat.{not-suc-le-zero, mod-lt}
use native.Mathlib.Omega.{arith}
use lib.Dec.{eqb}
use lib.ListN.{length}
use borrow.Author.Tests.{ne_eqb}
use Rattle.window.specs.declared.query.Query.{Query}
use Rattle.window.specs.Lists.{any, Each}
use Rattle.window.specs.Queries.{Limits, length_limit, phase, edge}
use Rattle.window.specs.Partials.{Partial, spanning, partials_from}
use Rattle.window.specs.Invariant.{Ordered, Tiles, marks, Tracked, Shape}
use Rattle.window.proofs.Lists.{le_cases, or_neither, not_left, not_right}
use Rattle.window.proofs.Queries.{marks_from, last_end, last-marks, last_reach, last_le}
use Rattle.window.proofs.Tiling.{ordered_weaken, ordered_snoc, tiles_le, tiles_snoc, from_none, from_snoc}

-- ---- partials from a place on

-- all partials are over by c: from c on nothing is left to tile
tiles_here : (ps : List Partial) (c : ℕ) → Ordered 0 ps c → Tiles c (partials_from c ps) c
tiles_here ps c o = subst (λ (x : List Partial). Tiles c x c) (sym (from_none 0 ps c o)) refl

-- the open partial closes at b: the tiling from m reaches b
tiles_closed : (m : ℕ) (ps : List Partial) (a b : ℕ) → a < b → Tiles m (partials_from m ps) a → Tiles m (partials_from m (ps ++ (spanning a b ∷ []))) b
tiles_closed m ps a b l h =
    subst (λ (x : List Partial). Tiles m x b) (sym (from_snoc m ps (spanning a b) (tiles_le m (partials_from m ps) a h)))
    (tiles_snoc m (partials_from m ps) a b l h)

pub shape-ordered : (o : Option ℕ) (n : ℕ) (qs : List Query) (ps : List Partial) → Shape o n qs ps → Ordered 0 ps n
shape-ordered none n qs ps h = h.1
shape-ordered (some a) n qs ps h = ordered_weaken 0 ps a n h.0 h.1

-- ---- a query, as readings come and partials close

-- at a reading that is no edge of q
track_stay : (n : ℕ) (ps : List Partial) (a : ℕ) (q : Query) → a ≤ n → edge (n + 1) q ≡ false → Tracked n ps a q → Tracked (n + 1) ps a q
track_stay n ps a q o e t =
    record { early = t.early; tiled = λ m l h. le_cases m n (λ k. t.tiled m k h) (λ k. absurd (none-new m l k h)) }
  where
    none-new : (m : ℕ) → m ≤ n + 1 → n < m → marks m q ≡ true → ⊥
    none-new m l k h =
        let same : n + 1 ≡ m = omega arith in
        let z : marks m q ≡ false = or_neither (eqb m q.origin) (edge m q) (ne_eqb m q.origin (omega (arith, t.early))) (rw same at e) in
        true≢false (sym h ∙ z)

pub track_all : (n : ℕ) (ps : List Partial) (a : ℕ) (qs : List Query) → a ≤ n → any (edge (n + 1)) qs ≡ false → Each (Tracked n ps a) qs → Each (Tracked (n + 1) ps a) qs
track_all n ps a [] o e t = tt
track_all n ps a (q ∷ qs) o e t = (
  track_stay n ps a q o (not_left (edge (n + 1) q) (any (edge (n + 1)) qs) e) t.0,
  track_all n ps a qs o (not_right (edge (n + 1) q) (any (edge (n + 1)) qs) e) t.1,
)

-- at a closing at b, which is n (a registration) or n + 1 (a reading)
pub track_close : (n : ℕ) (ps : List Partial) (a b : ℕ) → a < b → n ≤ b → b ≤ n + 1 → Ordered 0 ps a → (q : Query) → Tracked n ps a q
    → Tracked b (ps ++ (spanning a b ∷ [])) b q
track_close n ps a b l lo hi o q t =
    record {
      early = omega (arith, t.early);
      tiled = λ m k h. le_cases m n (λ i. tiles_closed m ps a b l (t.tiled m i h)) (λ i. at_end m k i);
    }
  where
    more : List Partial
    more = ps ++ (spanning a b ∷ [])

    at_end : (m : ℕ) → m ≤ b → n < m → Tiles m (partials_from m more) b
    at_end m k i =
        let same : b ≡ m = omega arith in
        subst (λ (x : ℕ). Tiles x (partials_from x more) b) same (tiles_here more b (ordered_snoc 0 ps a b l o))

-- at its registration
pub track_new : (ps : List Partial) (a : ℕ) (q : Query) → q.origin ≡ a → Ordered 0 ps a → Tracked a ps a q
track_new ps a q e o =
    record { early = omega arith; tiled = λ m l h. subst (λ (x : ℕ). Tiles x (partials_from x ps) a) (same m l h) (tiles_here ps a o) }
  where
    same : (m : ℕ) → m ≤ a → marks m q ≡ true → a ≡ m
    same m l h = omega (arith, marks_from m q h)

-- I5: the open partial is shorter than every slide
pub open_within_slide : (n : ℕ) (ps : List Partial) (a : ℕ) (q : Query) → Limits q → a ≤ n → Tracked n ps a q → n < a + q.slide
open_within_slide n ps a q g l t =
    let rest : phase n q % q.slide < q.slide = mod-lt (phase n q) g.slide_low in
    let back : last_end n q ≤ n = last_le n q (omega (arith, t.early)) in
    omega (arith, last_reach n q, tiles_le (last_end n q) (partials_from (last_end n q) ps) a (t.tiled (last_end n q) back (last-marks n q)))

-- so what closes by the next reading holds at most 4,096 readings
pub closes_short : (n : ℕ) (ps : List Partial) (a b : ℕ) (qs : List Query) → b ≤ n + 1 → a ≤ n → 1 ≤ length qs
    → Each Limits qs → Each (Tracked n ps a) qs → b ≤ a + length_limit
closes_short n ps a b [] l o w g t = absurd (not-suc-le-zero w)
closes_short n ps a b (q ∷ qs) l o w g t = omega (arith, open_within_slide n ps a q g.0 o t.0, g.0.slide_high)
