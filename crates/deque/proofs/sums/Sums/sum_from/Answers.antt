-- `Sums::sum_from`: where partials are sorted, the search finds the first that starts at `from` or later; the lap
-- without what came before its place, with the lap before where the place lies behind the newest, is the sum.
-- Assumes nothing.
use Rattle.std.proofs.Common.{◌≡◌, ℤ, List, ℕ, map, refl, sym, ap, subst, ◌∙◌, ◌<◌, arith, rules, w64, to_z-of_z, drop}
use Rattle.std.specs.List.Sorted.{IsNonDecreasing}
use Rattle.std.proofs.lemmas.Int.{ints}
use Rattle.window.specs.Orders.{sum}
use Rattle.window.specs.Partials.{value_of}
use Rattle.window.specs.Standing.{evicted}
use Rattle.window.specs.Invariant.{Sorted}
use Rattle.deque.specs.declared.sums.Sums.{Sums}
use Rattle.ints.specs.Sizes.{Small}
use Rattle.deque.specs.Rings.{place, starts_of, count_before}
use Rattle.deque.specs.Sums.{sum_at, lap_limit, partials_of, InBounds}
use Rattle.deque.proofs.Laps.{lap-fits, since_fits, both_fit, partials-evicted, partials-rising, sum_read, sum-none}
use Rattle.deque.proofs.sums.Sums.sum_from.Goals as goal

-- what the search found, where starts never fall: the entries from there on are those that start at `from` or later
found : (starts : List ℕ) (sums : List ℤ) (s : Sums) (from first : ℕ)
    → (IsNonDecreasing (starts_of starts s.ring) → first ≡ count_before from (starts_of starts s.ring)) → Sorted (partials_of starts sums s)
    → sum (map value_of (drop first (partials_of starts sums s))) ≡ sum (map value_of (evicted from (partials_of starts sums s)))
found starts sums s from first e sorted =
    ap (λ es. sum (map value_of es)) (partials-evicted starts sums s from first (e (partials-rising starts sums s sorted)))

-- z is the number of the table at the place p of entry j, as the code reads it, and k what the clamp makes of that: the
-- number of the table, where that is within its bound
read : (sums : List ℤ) (s : Sums) (j p : ℕ) (z k : ℤ) → z ≡ sum_at sums p → p ≡ place s.ring.head j → j < s.ring.len → InBounds sums s
    → (Small lap_limit z → k ≡ z) → k ≡ sum_at sums p
read sums s j p z k e here l bounds same = same (subst (Small lap_limit) (sym (e ∙ ap (sum_at sums) here)) (bounds j l)) ∙ e

pub returns-in_default : goal.returns-in_default
returns-in_default c sorted bounds =
    let a = c.args in
    let before = count_before a.from (starts_of a.starts.now a.self.ring) in
    sum-none a.starts.now a.sums.now a.self before (c.in_default.ensures (partials-rising a.starts.now a.sums.now a.self sorted))
    ∙ found a.starts.now a.sums.now a.self a.from before (λ _. refl) sorted

pub returns : goal.returns
returns c sorted bounds =
    let a = c.args in
    let s : Sums = a.self in
    let fits = c.requires.0 in
    let p = c.in-Some.place in
    let (j, within, here, first) = c.in-Some.ensures in
    let k = c.clamp in
    let b = c.lap_behind in
    let number = read a.sums.now s j p _ k.result (to_z-of_z {w = w64} {z = sum_at a.sums.now p} (search rules)) here within bounds k.ensures.same in
    omega (arith, ints, lap-fits s fits, since_fits s fits k.result k.ensures.small, both_fit s fits k.result k.ensures.small b.result b.ensures.small)
    ∙ sum_read a.starts.now a.sums.now s j within p k.result b.result here number b.ensures.value
    ∙ found a.starts.now a.sums.now s a.from j first sorted
