-- Lists of aggregates: rising starts, those from a place on, their entries.
-- Assumes nothing.
use mathlib.Core.Path.{◌≡◌, refl, ap}
use mathlib.Core.Bool.{Bool, true, false, cond}
use mathlib.Core.List.{List, [], ◌∷◌, ◌++◌}
use Prim.Native.Nat.{ℕ, suc, ◌+◌, ◌≤◌, ◌<◌}
use native.Mathlib.Omega.{arith}
use lib.ListN.{length}
use borrow.Author.Tests.{leb-true, leb-false, lt-leb}
use Rattle.window.specs.Lists.{Each}
use Rattle.window.specs.Partials.{Entry, live, entries_from}
use Rattle.window.specs.Invariant.{Sorted}
use native.Mathlib.Nat.{le_refl}
use Rattle.window.proofs.Lists.{le_cases, each_map, each_append, each_filter, filter_map}
use Rattle.board.specs.declared.aggregate.Aggregate.{Aggregate}
use Rattle.board.specs.Aggregates.{closed_from, entry_by, entries_by, Rising, Before}

-- ---- rising starts

-- one more, that starts after all
pub rising_snoc : (cs : List Aggregate) (a : Aggregate) → Rising cs → Before a.start cs → Rising (cs ++ (a ∷ []))
rising_snoc [] a r b = (tt, tt)
rising_snoc (c ∷ cs) a r b = (each_append (λ (x : Aggregate). c.start < x.start) cs (a ∷ []) r.0 (b.0, tt), rising_snoc cs a r.1 b.1)

-- those from a place on rise where all do
pub rising_from : (h : ℕ) (cs : List Aggregate) → Rising cs → Rising (closed_from h cs)
rising_from h [] r = tt
rising_from h (c ∷ cs) r = go (live h c.start) (rising_from h cs r.1)
  where
    go : (b : Bool) → Rising (closed_from h cs) → Rising (cond b (c ∷ closed_from h cs) (closed_from h cs))
    go true k = (each_filter (λ (x : Aggregate). c.start < x.start) (λ (x : Aggregate). live h x.start) cs r.0, k)
    go false k = k

-- those from a later place on, of those from an earlier one on
pub from_from : (h h' : ℕ) (cs : List Aggregate) → h ≤ h' → closed_from h' (closed_from h cs) ≡ closed_from h' cs
from_from h h' [] l = refl
from_from h h' (p ∷ ps) l = go (live h p.start) refl (from_from h h' ps l)
  where
    go : (b : Bool) → live h p.start ≡ b → closed_from h' (closed_from h ps) ≡ closed_from h' ps
        → closed_from h' (cond b (p ∷ closed_from h ps) (closed_from h ps)) ≡ closed_from h' (p ∷ ps)
    go true e ih = rw ih
    go false e ih = rw (lt-leb h' p.start (omega (arith, leb-false h p.start e)), ih)

-- of those that start before s, at most s - h start at h or later; all start at a or later
few_from : (h a s : ℕ) (cs : List Aggregate) → Each (λ (x : Aggregate). a ≤ x.start) cs → Rising cs → Before s cs → a ≤ s → a + length (closed_from h cs) ≤ s
few_from h a s [] f r b l = omega arith
few_from h a s (c ∷ cs) f r b l = go (live h c.start) refl (λ k i j. few_from h k s cs (after k i) r.1 b.1 j)
  where
    after : (k : ℕ) → k ≤ suc c.start → Each (λ (x : Aggregate). k ≤ x.start) cs
    after k i = each_map (λ (x : Aggregate). c.start < x.start) (λ (x : Aggregate). k ≤ x.start) (λ x j. omega arith) cs r.0

    go : (t : Bool) → live h c.start ≡ t → ((k : ℕ) → k ≤ suc c.start → k ≤ s → k + length (closed_from h cs) ≤ s) → a + length (cond t (c ∷ closed_from h cs) (closed_from h cs)) ≤ s
    go true e ih = omega (arith, f.0, ih (suc c.start) (le_refl (suc c.start)) (omega (arith, b.0)))
    go false e ih = ih a (omega (arith, f.0)) l

each_from : (h : ℕ) (cs : List Aggregate) → Each (λ (x : Aggregate). h ≤ x.start) (closed_from h cs)
each_from h [] = tt
each_from h (c ∷ cs) = go (live h c.start) refl (each_from h cs)
  where
    go : (b : Bool) → live h c.start ≡ b → Each (λ (x : Aggregate). h ≤ x.start) (closed_from h cs) → Each (λ (x : Aggregate). h ≤ x.start) (cond b (c ∷ closed_from h cs) (closed_from h cs))
    go true e k = (leb-true h c.start e, k)
    go false e k = k

-- those that start before s, where s is before h, are not among those from h on
none_from : (h s : ℕ) (xs : List Aggregate) → s ≤ h → Before s xs → length (closed_from h xs) ≡ 0
none_from h s [] l k = refl
none_from h s (x ∷ xs) l k = rw (lt-leb h x.start (omega (arith, k.0))) (none_from h s xs l k.1)

-- room for a push: of what starts before s, fewer than c start at h or later where s is before h + c
pub room : (h s c : ℕ) (cs : List Aggregate) → Rising cs → Before s cs → 0 < c → s < h + c → length (closed_from h cs) < c
room h s c cs r b z l =
    le_cases s h (λ k. omega (arith, none_from h s cs k b))
    (λ k. omega (
      arith,
      ap length (from_from h h cs (le_refl h)),
      few_from h h s (closed_from h cs) (each_from h cs) (rising_from h cs r) (each_filter (λ (x : Aggregate). x.start < s) (λ (x : Aggregate). live h x.start) cs b) (omega arith),
    ))

-- those from a place on start before s where all do
pub before_from : (h : ℕ) (cs : List Aggregate) (s : ℕ) → Before s cs → Before s (closed_from h cs)
before_from h cs s b = each_filter (λ (x : Aggregate). x.start < s) (λ (x : Aggregate). live h x.start) cs b

-- ---- entries

module _ {A : Type 0} (f : Aggregate → A) where
  -- the entries from a place on are those of the aggregates from there on
  pub entries_from_lem : (h : ℕ) (cs : List Aggregate) → entries_from h (entries_by f cs) ≡ entries_by f (closed_from h cs)
  entries_from_lem h cs = filter_map (entry_by f) (λ (e : Entry A). live h e.start) cs

  pub entries_snoc : (cs : List Aggregate) (a : Aggregate) → entries_by f (cs ++ (a ∷ [])) ≡ entries_by f cs ++ (entry_by f a ∷ [])
  entries_snoc [] a = refl
  entries_snoc (c ∷ cs) a = ap (λ (l : List (Entry A)). entry_by f c ∷ l) (entries_snoc cs a)

  -- starts that rise never fall
  pub rising_sorted : (cs : List Aggregate) → Rising cs → Sorted (entries_by f cs)
  rising_sorted [] r = tt
  rising_sorted (c ∷ cs) r = (go cs r.0, rising_sorted cs r.1)
    where
      go : (xs : List Aggregate) → Each (λ (b : Aggregate). c.start < b.start) xs → Each (λ (e : Entry A). c.start ≤ e.start) (entries_by f xs)
      go [] k = tt
      go (x ∷ xs) k = (omega (arith, k.0), go xs k.1)
