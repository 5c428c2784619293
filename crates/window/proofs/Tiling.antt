-- The laws of partials that lie in order or tile a stretch of the readings: W2 and W3.
-- Assumes nothing.
use mathlib.Core.Path.{◌≡◌, refl, sym, ap, ◌∙◌}
use mathlib.Core.Bool.{false}
use mathlib.Core.List.{List, [], ◌∷◌, ◌++◌, map}
use Prim.Native.Nat.{ℕ, ◌+◌, ◌≤◌, ◌<◌}
use native.Mathlib.Nat.{le_refl}
use native.Mathlib.Omega.{arith}
use lib.ListN.{length, take, drop, take-append-drop}
use lib.Seq.{slice_empty, length-slice, take-take, length-take-le, drop-append-le, take-append-le}
use borrow.Author.Tests.{le-leb, lt-leb}
use Rattle.window.specs.Lists.{joined, Each}
use Rattle.window.specs.Orders.{aggregate}
use Rattle.window.specs.Partials.{Partial, spanning, Entry, between, readings_of, entry, entries, live, partials_from, entries_from, value_of}
use Rattle.window.specs.Invariant.{Ordered, Tiles}
use Rattle.window.proofs.Lists.{each_map, filter-append, filter_none, filter_map}
use Rattle.window.proofs.Orders.{aggregate-joined}

-- ---- in order

pub ordered_le : (a : ℕ) (ps : List Partial) (c : ℕ) → Ordered a ps c → a ≤ c
ordered_le a [] c h = h
ordered_le a (p ∷ ps) c h = omega (arith, ordered_le p.stop ps c h.2)

pub ordered_weaken : (a : ℕ) (ps : List Partial) (c d : ℕ) → c ≤ d → Ordered a ps c → Ordered a ps d
ordered_weaken a [] c d l h = omega arith
ordered_weaken a (p ∷ ps) c d l h = (h.0, h.1, ordered_weaken p.stop ps c d l h.2)

-- one more, at the end
pub ordered_snoc : (a : ℕ) (ps : List Partial) (c d : ℕ) → c < d → Ordered a ps c → Ordered a (ps ++ (spanning c d ∷ [])) d
ordered_snoc a [] c d l h = (h, l, le_refl d)
ordered_snoc a (p ∷ ps) c d l h = (h.0, h.1, ordered_snoc p.stop ps c d l h.2)

-- each holds a reading, and is over by c
pub ordered-before : (a : ℕ) (ps : List Partial) (c : ℕ) → Ordered a ps c → Each (λ (p : Partial). (p.start < p.stop) × (p.stop ≤ c)) ps
ordered-before a [] c h = tt
ordered-before a (p ∷ ps) c h = ((h.1, ordered_le p.stop ps c h.2), ordered-before p.stop ps c h.2)

-- each holds a reading, so there are no more partials than readings
pub ordered-count : (a : ℕ) (ps : List Partial) (c : ℕ) → Ordered a ps c → a + length ps ≤ c
ordered-count a [] c o = omega (arith, o)
ordered-count a (p ∷ ps) c o = omega (arith, o.0, o.1, ordered-count p.stop ps c o.2)

-- ---- tiling

pub tiles_le : (a : ℕ) (ps : List Partial) (c : ℕ) → Tiles a ps c → a ≤ c
tiles_le a [] c h = omega arith
tiles_le a (p ∷ ps) c h = omega (arith, h.0, h.1, tiles_le p.stop ps c h.2)

pub tiles_snoc : (a : ℕ) (ps : List Partial) (c d : ℕ) → c < d → Tiles a ps c → Tiles a (ps ++ (spanning c d ∷ [])) d
tiles_snoc a [] c d l h = (sym h, l, refl)
tiles_snoc a (p ∷ ps) c d l h = (h.0, h.1, tiles_snoc p.stop ps c d l h.2)

-- ---- the partials from a place on

-- all are over by m: none starts there or later
pub from_none : (a : ℕ) (ps : List Partial) (m : ℕ) → Ordered a ps m → partials_from m ps ≡ []
from_none a ps m o =
    filter_none (λ (p : Partial). live m p.start) ps
    (each_map (λ (p : Partial). (p.start < p.stop) × (p.stop ≤ m)) (λ (p : Partial). live m p.start ≡ false)
    (λ p k. lt-leb m p.start (omega arith)) ps (ordered-before a ps m o))

-- one more, which starts there or later
pub from_snoc : (m : ℕ) (ps : List Partial) (p : Partial) → m ≤ p.start → partials_from m (ps ++ (p ∷ [])) ≡ partials_from m ps ++ (p ∷ [])
from_snoc m ps p l = filter-append (λ (q : Partial). live m q.start) ps (p ∷ []) ∙ rw (le-leb m p.start l)

-- ---- their entries

module _ {A B : Type 0} (f : List A → B) (rs : List A) where
  -- the entries from a place on are those of the partials from there on
  pub entries_from_lem : (m : ℕ) (ps : List Partial) → entries_from m (entries f rs ps) ≡ entries f rs (partials_from m ps)
  entries_from_lem m ps = filter_map (entry f rs) (λ (e : Entry B). live m e.start) ps

-- ---- stretches of readings

pub between_join : {A : Type 0} (rs : List A) (a b c : ℕ) → a ≤ b → b ≤ c → b ≤ length rs → between rs a c ≡ between rs a b ++ between rs b c
between_join {A} rs a b c h k l =
    ap (drop a) (sym (take-append-drop b (take c rs)) ∙ ap (λ (x : List A). x ++ between rs b c) (take-take b c rs k))
    ∙ drop-append-le a (take b rs) (between rs b c) (rw (length-take-le b rs l) h)

-- later readings do not change it
pub between_stable : {A : Type 0} (rs more : List A) (a b : ℕ) → b ≤ length rs → between (rs ++ more) a b ≡ between rs a b
between_stable rs more a b k = ap (drop a) (take-append-le b rs more k)

-- ---- a tiled stretch

module _ {A : Type 0} (rs : List A) where
  -- W2: its readings are those of the tiles, one tile after the other
  pub tiles_readings : (a : ℕ) (ps : List Partial) (c : ℕ) → c ≤ length rs → Tiles a ps c → between rs a c ≡ joined (map (readings_of rs) ps)
  tiles_readings a [] c l h = ap (λ (i : ℕ). between rs i c) h ∙ slice_empty c rs
  tiles_readings a (p ∷ ps) c l h =
      let b : p.stop ≤ c = tiles_le p.stop ps c h.2 in
      ap (λ (i : ℕ). between rs i c) (sym h.0)
      ∙ between_join rs p.start p.stop c (omega (arith, h.1)) b (omega arith)
      ∙ ap (λ (x : List A). readings_of rs p ++ x) (tiles_readings p.stop ps c l h.2)

  -- and each tile holds a reading
  tiles_nonempty : (a : ℕ) (ps : List Partial) (c : ℕ) → c ≤ length rs → Tiles a ps c → Each (λ (x : List A). 0 < length x) (map (readings_of rs) ps)
  tiles_nonempty a [] c l h = tt
  tiles_nonempty a (p ∷ ps) c l h =
      let b : p.stop ≤ c = tiles_le p.stop ps c h.2 in
      (rw (length-slice p.start p.stop rs (omega arith)) (omega (arith, h.1)), tiles_nonempty p.stop ps c l h.2)

  values-held : {B : Type 0} (f : List A → B) (ps : List Partial) → map value_of (entries f rs ps) ≡ map f (map (readings_of rs) ps)
  values-held f [] = refl
  values-held {B} f (p ∷ ps) = ap (λ (l : List B). f (readings_of rs p) ∷ l) (values-held f ps)

  -- W3: so its aggregate is that of the tiles' aggregates
  pub aggregate_tiles : (op : A → A → A) (none : A) (assoc : (x y z : A) → op (op x y) z ≡ op x (op y z)) (a : ℕ) (p : Partial) (ps : List Partial) (c : ℕ)
      → c ≤ length rs → Tiles a (p ∷ ps) c
      → aggregate op none (between rs a c) ≡ aggregate op none (map value_of (entries (aggregate op none) rs (p ∷ ps)))
  aggregate_tiles op none assoc a p ps c l h =
      ap (aggregate op none) (tiles_readings a (p ∷ ps) c l h)
      ∙ aggregate-joined op none assoc (readings_of rs p) (map (readings_of rs) ps) (tiles_nonempty a (p ∷ ps) c l h)
      ∙ ap (aggregate op none) (sym (values-held (aggregate op none) (p ∷ ps)))
