-- The laws of queries: the remainder by which the code finds an edge, the places where windows begin and end (W1), and
-- the horizon.
-- Assumes nothing.
use mathlib.Core.Path.{◌≡◌, refl, ap}
use mathlib.Core.Bool.{Bool, true, false, ◌&&◌, ◌||◌, cond}
use mathlib.Core.List.{List, [], ◌∷◌, ◌++◌}
use Prim.Native.Nat.{ℕ, ◌+◌, ◌*◌, ◌-◌, ◌/◌, ◌%◌, ◌≤◌, ◌<◌, max, min}
use native.Mathlib.Nat.{le_refl, mod-add-mod, mul-mod_left, div-add-mod'}
use native.Mathlib.Omega.{arith}
use lib.Dec.{leb, ltb, eqb}
use borrow.Author.Tests.{leb-true, leb-false, ltb-true, lt-ltb, eqb-true, eq-eqb, ne_eqb}
use Rattle.window.specs.declared.query.Query.{Query}
use Rattle.window.specs.Lists.{filter, any, Each}
use Rattle.window.specs.Queries.{Limits, length_limit, phase, due, edge, window_start, horizon}
use Rattle.window.specs.Refusals.{due_at}
use Rattle.window.specs.Invariant.{marks}
use Rattle.window.proofs.Lists.{and_left, and_right, or_left, or_right, not_left, not_right, each_map, each_filter}

-- ---- an edge by the remainder of the phase x

module _ (m : ℕ) (q : Query) (x : ℕ) (same : x ≡ phase m q) (after : q.origin < m) where
  pub edge-at_end : x % q.slide ≡ 0 → edge m q ≡ true
  edge-at_end e = simp (lt-ltb _ _ after, ← same, eq-eqb _ _ e)

  pub edge_elsewhere : (x % q.slide ≡ 0 → ⊥) → edge m q ≡ eqb ((x % q.slide + q.range) % q.slide) 0
  edge_elsewhere e = simp (lt-ltb _ _ after, ← same, ne_eqb _ _ e, mod-add-mod)

-- ---- the places where a window can begin or end

-- the one law of the phase that the rest uses: it grows with the readings
pub phase_back : (n d : ℕ) (q : Query) → q.origin < n - d → phase (n - d) q + d ≡ phase n q
unfolding phase
phase_back n d q l = omega arith

pub marks_origin : (m : ℕ) (q : Query) → m ≡ q.origin → marks m q ≡ true
marks_origin m q e = or_left (eqb m q.origin) (edge m q) (eq-eqb m q.origin e)

marks_end : (m : ℕ) (q : Query) → q.origin < m → phase m q % q.slide ≡ 0 → marks m q ≡ true
marks_end m q l e = or_right (eqb m q.origin) (edge m q) (rw (lt-ltb q.origin m l, e))

marks_begin : (m : ℕ) (q : Query) → q.origin < m → (phase m q + q.range) % q.slide ≡ 0 → marks m q ≡ true
marks_begin m q l e =
    or_right (eqb m q.origin) (edge m q)
    (rw (lt-ltb q.origin m l) (or_right (eqb (phase m q % q.slide) 0) (eqb ((phase m q + q.range) % q.slide) 0) (rw e)))

pub marks_from : (m : ℕ) (q : Query) → marks m q ≡ true → q.origin ≤ m
marks_from m q h = go (eqb m q.origin) refl h
  where
    go : (b : Bool) → eqb m q.origin ≡ b → (b || edge m q) ≡ true → q.origin ≤ m
    go true e k = omega (arith, eqb-true m q.origin e)
    go false e k = omega (arith, ltb-true q.origin m (and_left (ltb q.origin m) _ k))

pub due-after : (n : ℕ) (q : Query) → due n q ≡ true → q.origin < n
due-after n q h = ltb-true q.origin n (and_left (ltb q.origin n) (eqb (phase n q % q.slide) 0) h)

due_multiple : (n : ℕ) (q : Query) → due n q ≡ true → phase n q % q.slide ≡ 0
due_multiple n q h = eqb-true (phase n q % q.slide) 0 (and_right (ltb q.origin n) (eqb (phase n q % q.slide) 0) h)

-- where there is no edge the query is not due
edge-not-due : (n : ℕ) (q : Query) → edge n q ≡ false → due n q ≡ false
edge-not-due n q e = go (ltb q.origin n) (eqb (phase n q % q.slide) 0) (eqb ((phase n q + q.range) % q.slide) 0) e
  where
    go : (a b c : Bool) → (a && (b || c)) ≡ false → (a && b) ≡ false
    go true true c h = h
    go true false c h = refl
    go false b c h = refl

-- so where no query has an edge none is due
pub none-due : (n : ℕ) (qs : List Query) → any (edge n) qs ≡ false → due_at n qs ≡ []
none-due n [] e = refl
none-due n (q ∷ qs) e = rw (edge-not-due n q (not_left (edge n q) (any (edge n) qs) e)) (none-due n qs (not_right (edge n q) (any (edge n) qs) e))

-- a window ends where its query is due
pub due-marks : (n : ℕ) (q : Query) → due n q ≡ true → marks n q ≡ true
due-marks n q h = marks_end n q (due-after n q h) (due_multiple n q h)

-- W1: the window of a due query begins at its registration point or at an edge of it
pub window-marks : (n : ℕ) (q : Query) → due n q ≡ true → marks (window_start n q) q ≡ true
window-marks n q h = go (leb (n - q.range) q.origin) refl
  where
    go : (b : Bool) → leb (n - q.range) q.origin ≡ b → marks (window_start n q) q ≡ true
    go true e = marks_origin (window_start n q) q (omega (arith, leb-true (n - q.range) q.origin e))
    go false e =
        let k : q.origin < n - q.range = leb-false (n - q.range) q.origin e in
        let w : n - q.range ≡ window_start n q = omega arith in
        rw w at (marks_begin (n - q.range) q k (rw (phase_back n q.range q k) (due_multiple n q h)))

-- and holds a reading
pub window_nonempty : (n : ℕ) (q : Query) → Limits q → due n q ≡ true → window_start n q < n
window_nonempty n q g h = omega (arith, due-after n q h)

-- the last place up to n at which a window of q ends, or the registration point: less than a slide back
pub last_end : (n : ℕ) (q : Query) → ℕ
last_end n q = max q.origin (n - phase n q % q.slide)

pub last-marks : (n : ℕ) (q : Query) → marks (last_end n q) q ≡ true
unfolding last_end
last-marks n q = go (leb (n - d) q.origin) refl
  where
    d : ℕ
    d = phase n q % q.slide

    go : (b : Bool) → leb (n - d) q.origin ≡ b → marks (max q.origin (n - d)) q ≡ true
    go true e = marks_origin (max q.origin (n - d)) q (omega (arith, leb-true (n - d) q.origin e))
    go false e =
        let k : q.origin < n - d = leb-false (n - d) q.origin e in
        let w : n - d ≡ max q.origin (n - d) = omega arith in
        let m : phase (n - d) q ≡ phase n q / q.slide * q.slide = omega (arith, phase_back n d q k, div-add-mod' (phase n q) q.slide) in
        rw w at (marks_end (n - d) q k (rw m (mul-mod_left (phase n q / q.slide) q.slide)))

pub last_reach : (n : ℕ) (q : Query) → n ≤ last_end n q + phase n q % q.slide
unfolding last_end
last_reach n q = omega arith

pub last_le : (n : ℕ) (q : Query) → q.origin ≤ n → last_end n q ≤ n
unfolding last_end
last_le n q l = omega arith

-- ---- the horizon

-- it is at most every window start
pub horizon_le : (n : ℕ) (qs : List Query) → Each (λ (q : Query). horizon n qs ≤ window_start n q) qs
horizon_le n [] = tt
horizon_le n (q ∷ []) = (le_refl (window_start n q), tt)
horizon_le n (q ∷ p ∷ qs) = (
  omega arith,
  each_map (λ (r : Query). horizon n (p ∷ qs) ≤ window_start n r) (λ (r : Query). horizon n (q ∷ p ∷ qs) ≤ window_start n r) (λ r k. omega arith) (p ∷ qs) (horizon_le n (p ∷ qs)),
)

-- at most 4,096 readings back
pub horizon_far : (n : ℕ) (qs : List Query) → Each Limits qs → n ≤ horizon n qs + length_limit
horizon_far n [] g = omega arith
horizon_far n (q ∷ []) g = omega (arith, g.0.range_high)
horizon_far n (q ∷ p ∷ qs) g = omega (arith, horizon_far n (p ∷ qs) g.1, g.0.range_high)

-- a later count, a new query and a withdrawal never move it back
pub horizon-later : (n : ℕ) (qs : List Query) → horizon n qs ≤ horizon (n + 1) qs
horizon-later n [] = omega arith
horizon-later n (q ∷ []) = omega arith
horizon-later n (q ∷ p ∷ qs) = omega (arith, horizon-later n (p ∷ qs))

pub horizon-more : (n : ℕ) (qs : List Query) (q : Query) → Each (λ (p : Query). p.origin ≤ n) qs → q.origin ≡ n → horizon n (qs ++ (q ∷ [])) ≡ horizon n qs
horizon-more n [] q h e = omega arith
horizon-more n (p ∷ []) q h e = omega (arith, h.0)
horizon-more n (p ∷ r ∷ qs) q h e = ap (λ (x : ℕ). min (window_start n p) x) (horizon-more n (r ∷ qs) q h.1 e)

-- one query more, in front
pub horizon_cons : (n : ℕ) (q : Query) (qs : List Query) → Each (λ (p : Query). p.origin ≤ n) (q ∷ qs) → horizon n (q ∷ qs) ≡ min (window_start n q) (horizon n qs)
horizon_cons n q [] h = omega (arith, h.0)
horizon_cons n q (p ∷ qs) h = refl

pub horizon_fewer : (n : ℕ) (keep : Query → Bool) (qs : List Query) → Each (λ (q : Query). q.origin ≤ n) qs → horizon n qs ≤ horizon n (filter keep qs)
horizon_fewer n keep [] h = le_refl n
horizon_fewer n keep (q ∷ qs) h = go (keep q) (horizon_fewer n keep qs h.1)
  where
    kept : Each (λ (p : Query). p.origin ≤ n) (q ∷ filter keep qs)
    kept = (h.0, each_filter (λ (p : Query). p.origin ≤ n) keep qs h.1)

    go : (b : Bool) → horizon n qs ≤ horizon n (filter keep qs) → horizon n (q ∷ qs) ≤ horizon n (cond b (q ∷ filter keep qs) (filter keep qs))
    go true ih = omega (arith, ih, horizon_cons n q qs h, horizon_cons n q (filter keep qs) kept)
    go false ih = omega (arith, ih, horizon_cons n q qs h)
