-- The laws of a store at the place of a new entry, in one table and in those of starts and values.
-- Assumes nothing.
use Prim.Native.Nat.{ℕ, ◌<◌, ◌≤◌}
use mathlib.Core.Path.{◌≡◌}
use mathlib.Core.List.{List}
use native.Mathlib.Omega.{arith}
use lib.IntN.{ℤ, pos}
use lib.ListN.{length, get_or, set}
use lib.Seq.{get_or-set_same, get_or-set_other, drop-set-lt}
use Rattle.deque.specs.Rings.{capacity, place, entry_with, BeyondKept}
use Rattle.deque.specs.Extremes.{entry_at}

module _ (q h n : ℕ) (here : q ≡ place h n) where
  module _ {A : Type 0} (t : List A) (a : A) where
    -- the places of the entries before it keep what they hold
    pub store_other : (d : A) → n < capacity → (j : ℕ) → j < n → get_or (set t q a) (place h j) d ≡ get_or t (place h j) d
    store_other d room j l = get_or-set_other t q (place h j) a d (λ e. omega arith)

    -- its own place holds what was stored
    pub store_same : (d : A) → capacity ≤ length t → get_or (set t q a) (place h n) d ≡ a
    store_same d long = rw here (get_or-set_same t (place h n) a d (omega arith))

    -- what lies beyond the ring is untouched
    pub store_beyond : BeyondKept t (set t q a)
    store_beyond = drop-set-lt capacity t q a (omega arith)

  module _ (starts : List ℕ) (values : List ℤ) (s : ℕ) (v : ℤ) where
    -- the same of entries
    pub entry_other : n < capacity → (j : ℕ) → j < n → entry_at (set starts q s) (set values q v) (place h j) ≡ entry_at starts values (place h j)
    entry_other room j l = rw (store_other starts s 0 room j l, store_other values v (pos 0) room j l)

    pub entry-same : capacity ≤ length starts → capacity ≤ length values → entry_at (set starts q s) (set values q v) (place h n) ≡ entry_with s v
    entry-same long wide = rw (store_same starts s 0 long, store_same values v (pos 0) wide)
