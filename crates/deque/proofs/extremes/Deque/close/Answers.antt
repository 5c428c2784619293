-- `Deque::close`: the loop drops the entries at the end that are at most the new one, at one comparison each, and ends
-- where none is left or the last one stays; then the new entry joins the end. Assumes nothing.
use Rattle.std.proofs.Common.{◌≡◌, ◌≤◌, ◌+◌, ◌-◌, ℕ, ℤ, List, Bool, false, sym, ap, ◌∙◌, arith, rules, get_or, pos, w32, drop}
use Rattle.std.specs.Prelude.{min}
use Rattle.std.proofs.Math.Facts.{to_z-of_z}
use Rattle.std.proofs.lemmas.Bool.{not-true, not-false}
use Rattle.window.specs.Partials.{Entry}
use Rattle.window.specs.Standing.{at_most}
use Rattle.deque.specs.declared.compare.Extreme.{Extreme}
use Rattle.deque.specs.Rings.{capacity, place, listed, entry_with}
use Rattle.deque.specs.Extremes.{order_of, entry_at, trimmed}
use Rattle.deque.proofs.Stores.{store_beyond}
use Rattle.deque.proofs.Closing.{trim_step, trim_stop, trim_none, cost_is, closed-tables}
use Rattle.deque.proofs.extremes.Deque.close.Goals as goal
use Rattle.deque.proofs.extremes.Deque.close.Goals.{in_default, in-Some+then-not-compared}

-- what the loop leaves of `len` entries: how many, and the total
abbrev Leaves : (below : ℤ → ℤ → Bool) (y : Entry ℤ) (f : ℕ → Entry ℤ) (len before left total : ℕ) → Type 0
Leaves below y f len before left total =
    (left ≤ len) × (total ≡ before + ((len - left) + min 1 left)) × (listed left f ≡ trimmed below y (listed len f))

-- n entries are left, so far
module _ (below : ℤ → ℤ → Bool) (y : Entry ℤ) (f : ℕ → Entry ℤ) (len before n total : ℕ) (few : n ≤ len) (spent : total ≡ before + (len - n))
    (same : trimmed below y (listed n f) ≡ trimmed below y (listed len f)) where
  -- there is none
  none_left : n ≡ 0 → (left : ℕ) → left ≡ n → Leaves below y f len before left total
  none_left e left q = (omega arith, omega arith, ap (λ m. listed m f) q ∙ sym (trim_none below y n f e) ∙ same)

  -- the last one stays, as one comparison more says
  last_stays : (last : ℕ) → n ≡ last + 1 → at_most below (f last) y ≡ false → (total' : ℕ) → total' ≡ total + 1 → Leaves below y f len before n total'
  last_stays last here e total' t = (few, omega arith, sym (trim_stop below y n f last here e) ∙ same)

-- what the comparison of entry `last` found, as the code reads the values
verdict_is : (extreme : Extreme) (starts : List ℕ) (values : List ℤ) (h last p start : ℕ) (z x value : ℤ) (verdict : Bool) → verdict ≡ order_of extreme z x → z ≡ get_or values p (pos 0)
    → x ≡ value → p ≡ place h last → at_most (order_of extreme) (entry_at starts values (place h last)) (entry_with start value) ≡ verdict
verdict_is extreme starts values h last p start z x value verdict e read same here = sym (rw (read, same, here) at e)

pub loop-newest-preserved : goal.loop-newest-preserved
loop-newest-preserved c =
    let a = c.args in
    let l = c.loop-newest in
    let last = c.in-Some.newest in
    let k = c.in-Some.ensures in
    let verdict = verdict_is a.extreme a.starts.now a.values.now a.self.ring.head last c.place-last.result a.start _ _ a.value _ c.compare-compared.ensures.0
    (to_z-of_z {w = w32} {z = get_or a.values.now c.place-last.result (pos 0)} (search rules)) (to_z-of_z c.ranges.value) c.place-last.ensures in (
      omega arith,
      omega arith,
      rw (to_z-of_z c.ranges.value)
          (sym (trim_step (order_of a.extreme) (entry_with a.start a.value) l.len (λ j. entry_at a.starts.now a.values.now (place a.self.ring.head j)) last (omega arith)
          (verdict ∙ not-false _ c.if-not-compared.false)))
          ∙ l.invariant.2,
    )

pub returns : goal.returns
returns c =
    let a = c.args in
    let r = a.self.ring in
    let y = entry_with a.start a.value in
    let below = order_of a.extreme in
    let entry = entry_at a.starts.now a.values.now in
    let f : ℕ → Entry ℤ = λ j. entry (place r.head j) in
    let l = c.loop-newest in
    let i = l.invariant in
    let same = rw (to_z-of_z c.ranges.value) at i.2 in
    let m = c.match-checked_sub in
    let leaves : Leaves below y f r.len a.self.comparisons m.left m.total =
    elim m.branch [
      | in_default w ↦ rw (w.left-is, w.total-is) (none_left below y f r.len a.self.comparisons l.len l.total i.0 i.1 same (omega (arith, w.in_default.ensures)) _ (omega (arith, w.in_default.ensures)))
      | in-Some+then-not-compared w ↦
          let last = w.in-Some.newest in
          let k = w.in-Some.ensures in
          let verdict = verdict_is a.extreme a.starts.now a.values.now r.head last w.place-last.result a.start _ _ a.value _ w.compare-compared.ensures.0
          (to_z-of_z {w = w32} {z = get_or a.values.now w.place-last.result (pos 0)} (search rules)) (to_z-of_z c.ranges.value) w.place-last.ensures in
          rw (w.left-is, w.total-is) (last_stays below y f r.len a.self.comparisons l.len l.total i.0 i.1 same last (omega arith)
          (verdict ∙ not-true _ w.if-not-compared.true) _ w.compare-compared.ensures.1)
    ] in
    let p = c.push-next in
    record {
      fits = search rules;
      entries = closed-tables below a.starts.now a.values.now r a.start a.value m.left (omega arith) leaves.2
          p.new.self p.new.starts p.result _ (omega arith) (omega arith) p.ensures.pushed.0 p.ensures.pushed.1 p.ensures.stored (to_z-of_z c.ranges.value);
      cost = cost_is entry r below y m.left leaves.2 m.total a.self.comparisons leaves.1;
      beyond = (
        ap (drop capacity) p.ensures.stored ∙ store_beyond p.result _ _ p.ensures.pushed.1 a.starts.now a.start,
        store_beyond p.result _ _ p.ensures.pushed.1 a.values.now _,
      );
    }
