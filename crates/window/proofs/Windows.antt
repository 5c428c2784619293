-- Windows from partials: what a due query is answered, by the closed partials (W1 and W5), and how many partials are
-- live (W6). Facts for maxima and minima come from one argument over the order.
-- Assumes nothing.
use mathlib.Core.Path.{◌≡◌, refl, subst}
use mathlib.Core.Bool.{Bool, true, false, cond}
use mathlib.Core.Option.{Option, none, some}
use mathlib.Core.List.{List, [], ◌∷◌, map}
use Prim.Native.Nat.{ℕ, ◌-◌, ◌≤◌, ◌<◌, max, zero-le}
use native.Mathlib.Nat.{le_refl, lt_irrefl}
use native.Mathlib.Omega.{arith}
use lib.Dec.{leb}
use lib.IntN.{ℤ, pos, ◌+ℤ◌, +ℤ_assoc}
use lib.ListN.{length}
use lib.Seq.{length-slice}
use borrow.Author.Tests.{leb-true}
use Rattle.window.specs.declared.query.Query.{Query}
use Rattle.window.specs.Lists.{Each}
use Rattle.window.specs.Orders.{aggregate, greater}
use Rattle.window.specs.Queries.{Limits, length_limit, due, window_start, horizon}
use Rattle.window.specs.Partials.{Partial, between, entries, partials_from, entries_from, value_of}
use Rattle.window.specs.Calls.{Call}
use Rattle.window.specs.Model.{State, count, reached}
use Rattle.window.specs.Invariant.{Ordered, Tiles, Tracked, Shape, Invariant, FromPartials, DueFromPartials}
use Rattle.window.proofs.Orders.{greater_assoc}
use Rattle.window.proofs.Queries.{due-marks, window-marks, window_nonempty, horizon_far}
use Rattle.window.proofs.Tiling.{ordered_le, ordered_weaken, tiles_le, entries_from_lem, aggregate_tiles}
use Rattle.window.proofs.Tracking.{shape-ordered}
use Rattle.window.proofs.Preserved.{reached-invariant}

-- ---- W1: the window of a due query is tiled by closed partials

-- the open partial has just begun
pub due-closed : (n : ℕ) (ps : List Partial) (a : ℕ) (q : Query) → a ≤ n → Tracked n ps a q → due n q ≡ true → a ≡ n
due-closed n ps a q l t h = omega (arith, tiles_le n (partials_from n ps) a (t.tiled n (le_refl n) (due-marks n q h)))

pub window-tiled : (n : ℕ) (ps : List Partial) (a : ℕ) (q : Query) → Limits q → a ≤ n → Tracked n ps a q → due n q ≡ true
    → Tiles (window_start n q) (partials_from (window_start n q) ps) n
window-tiled n ps a q g l t h =
    let w : window_start n q < n = window_nonempty n q g h in
    subst (λ (x : ℕ). Tiles (window_start n q) (partials_from (window_start n q) ps) x) (due-closed n ps a q l t h)
    (t.tiled (window_start n q) (omega arith) (window-marks n q h))

-- ---- a stretch of readings from a place from which the partials tile it

module _ (rs : List ℤ) (m : ℕ) (ps : List Partial) (c : ℕ) (l : m < c) (k : c ≤ length rs) (t : Tiles m (partials_from m ps) c) where
  -- its aggregate is that of the partials from there on
  stretch_aggregate : (op : ℤ → ℤ → ℤ) (e : ℤ) → ((x y z : ℤ) → op (op x y) z ≡ op x (op y z))
      → aggregate op e (between rs m c) ≡ aggregate op e (map value_of (entries_from m (entries (aggregate op e) rs ps)))
  stretch_aggregate op e assoc = rw (entries_from_lem (aggregate op e) rs m ps) (go (partials_from m ps) t)
    where
      go : (qs : List Partial) → Tiles m qs c → aggregate op e (between rs m c) ≡ aggregate op e (map value_of (entries (aggregate op e) rs qs))
      go [] h = absurd (lt_irrefl c (rw h at l))
      go (q ∷ qs) h = aggregate_tiles rs op e assoc m q qs c k h

-- ---- W5: what a due query is answered, from partials

one_from_partials : (s : State) (a : ℕ) (q : Query) → Limits q → a ≤ count s → Ordered 0 s.closed (count s) → Tracked (count s) s.closed a q → due (count s) q ≡ true
    → FromPartials s q
one_from_partials s a q g l o t h =
    let n : ℕ = count s in
    let w : ℕ = window_start n q in
    let some-reading : w < n = window_nonempty n q g h in
    let tiled : Tiles w (partials_from w s.closed) n = window-tiled n s.closed a q g l t h in
    record {
      counts = length-slice w n s.readings (le_refl n);
      sums = stretch_aggregate s.readings w s.closed n some-reading (le_refl n) tiled ◌+ℤ◌ (pos 0) +ℤ_assoc;
      extremes = λ below order. stretch_aggregate s.readings w s.closed n some-reading (le_refl n) tiled (greater below) (pos 0) (greater_assoc below order);
    }

pub due_from_partials : (s : State) → Invariant s → DueFromPartials s
due_from_partials s i = go s.open_start i.shape
  where
    each : (a : ℕ) (qs : List Query) → a ≤ count s → Ordered 0 s.closed (count s) → Each Limits qs → Each (Tracked (count s) s.closed a) qs
        → Each (λ (q : Query). due (count s) q ≡ true → FromPartials s q) qs
    each a [] l o g t = tt
    each a (q ∷ qs) l o g t = (λ h. one_from_partials s a q g.0 l o t.0 h, each a qs l o g.1 t.1)

    go : (o : Option ℕ) → Shape o (count s) s.queries s.closed → DueFromPartials s
    go none h = rw h.0 tt
    go (some a) h = each a s.queries h.0 (ordered_weaken 0 s.closed a (count s) h.0 h.1) i.within_limits.limits h.3

-- and so after every list of calls on a fresh model
pub reached_from_partials : (cs : List Call) → DueFromPartials (reached cs)
reached_from_partials cs = due_from_partials (reached cs) (reached-invariant cs)

-- ---- W6: the live partials

-- partials of at least one reading each, that start at h or later
pub from_few : (h a : ℕ) (ps : List Partial) (c : ℕ) → Ordered a ps c → length (partials_from h ps) ≤ c - max a h
from_few h a [] c o = zero-le
from_few h a (p ∷ ps) c o = go (leb h p.start) refl (from_few h p.stop ps c o.2)
  where
    end : p.stop ≤ c
    end = ordered_le p.stop ps c o.2

    go : (b : Bool) → leb h p.start ≡ b → length (partials_from h ps) ≤ c - max p.stop h → length (cond b (p ∷ partials_from h ps) (partials_from h ps)) ≤ c - max a h
    go true e ih = omega (arith, ih, end, o.0, o.1, leb-true h p.start e)
    go false e ih = omega (arith, ih, end, o.0, o.1)

-- at most 4,096 are live
pub live-few : (s : State) → Invariant s → length (partials_from (horizon (count s) s.queries) s.closed) ≤ length_limit
live-few s i =
    omega (
      arith,
      from_few (horizon (count s) s.queries) 0 s.closed (count s) (shape-ordered s.open_start (count s) s.queries s.closed i.shape),
      horizon_far (count s) s.queries i.within_limits.limits,
    )
