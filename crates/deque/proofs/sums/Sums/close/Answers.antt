-- `Sums::close`: at place 0 a new lap begins, elsewhere the lap goes on; either way the push of the partial is all that
-- is asked. Assumes nothing.
use Rattle.std.proofs.Common.{◌≡◌, ℤ, pos, ◌+ℤ◌, ap, ◌∙◌, refl, arith, to_z, of_z, w64}
use Rattle.std.proofs.Math.ListN.{set}
use Rattle.std.proofs.lemmas.Int.{ints}
use Rattle.deque.specs.declared.ring.Ring.{Ring}
use Rattle.deque.specs.declared.sums.Sums.{Sums}
use Rattle.deque.specs.Rings.{with_room, grown}
use Rattle.deque.proofs.Laps.{LapStep, within_lap, new_lap, Pushed, on_ring, lap-fits, more-fits, closed_all}
use Rattle.deque.proofs.sums.Sums.close.Goals as goal
use Rattle.deque.proofs.sums.Sums.close.Goals.{then-place-eq0, else-place-eq0}

pub returns : goal.returns
returns c =
    let a = c.args in
    let s : Sums = a.self in
    let p = c.push-place in
    let t : Sums = c.if-place-eq0.self in
    let v : ℤ = to_z w64 (of_z w64 t.lap) in
    let s₁ : Sums = record { ring = t.ring; lap = to_z w64 (of_z w64 (v +ℤ to_z w64 (of_z w64 a.sum))); previous = t.previous } in
    let fits = lap-fits s c.requires.0 in
    let more = more-fits s c.requires.0 a.sum c.requires.3 in
    let ring : t.ring ≡ grown (with_room s.ring) = elim c.if-place-eq0.branch [
      | then-place-eq0 w ↦ ap (λ (u : Sums). u.ring) w.self-is ∙ p.ensures.pushed.0
      | else-place-eq0 w ↦ ap (λ (u : Sums). u.ring) w.self-is ∙ p.ensures.pushed.0
    ] in
    let step : LapStep (on_ring (with_room s.ring) s) s₁ p.result v a.sum = elim c.if-place-eq0.branch [
      | then-place-eq0 w ↦
          let l : t.lap ≡ pos 0 = ap (λ (u : Sums). u.lap) w.self-is in
          let b : t.previous ≡ to_z w64 (of_z w64 s.lap) = ap (λ (u : Sums). u.previous) w.self-is in
          new_lap w.if-place-eq0.true (omega (arith, ints)) (omega (arith, ints)) (omega (arith, ints))
      | else-place-eq0 w ↦
          let l : t.lap ≡ s.lap = ap (λ (u : Sums). u.lap) w.self-is in
          let b : t.previous ≡ s.previous = ap (λ (u : Sums). u.previous) w.self-is in
          within_lap w.if-place-eq0.false (omega (arith, ints)) (omega (arith, ints)) b
    ] in
    let pushed : Pushed a.sums.now (set a.sums.now p.result v) (on_ring (with_room s.ring) s) s₁ p.result v a.sum = record {
      inside = omega arith;
      room = omega arith;
      long = omega arith;
      next = p.ensures.pushed.1;
      stored = refl;
      head = ap (λ (r : Ring). r.head) ring;
      len = ap (λ (r : Ring). r.len) ring;
      step = step;
    } in
    let all = closed_all a.starts.now s (with_room s.ring) refl c.requires.0 c.requires.3 pushed p.new.starts a.start (omega arith) p.ensures.stored in
    record { fits = all.fits; entries = all.entries; bounds = all.bounds; beyond = all.beyond }
