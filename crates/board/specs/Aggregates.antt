-- Aggregates of stretches of readings: how a reading joins one, and lists of them.
-- Assumes nothing.
use Rattle.std.specs.Prelude.{ℕ, ◌<◌, List, [], ◌∷◌, map, ℤ, ◌+ℤ◌}
use Rattle.std.specs.Int.Signed.{le_z}
use Rattle.window.specs.Lists.{filter, Each}
use Rattle.window.specs.Orders.{ge_z, greater}
use Rattle.window.specs.Partials.{Entry, live}
use Rattle.deque.specs.Rings.{entry_with}
use Rattle.board.specs.declared.aggregate.Aggregate.{Aggregate}

-- ---- a reading joins

-- one reading, the first after the start: a maximum starts from it, not from 0
abbrev pub first_reading : ℕ → ℤ → Aggregate
first_reading start v = record { start = start; sum = v; maximum = v; minimum = v }

-- with one reading more
abbrev pub extended : ℤ → Aggregate → Aggregate
extended v a =
    record { start = a.start; sum = a.sum +ℤ v; maximum = greater le_z a.maximum v; minimum = greater ge_z a.minimum v }

-- ---- lists of aggregates

-- the three values of an aggregate, as functions
abbrev pub sum_of : Aggregate → ℤ
sum_of a = a.sum

abbrev pub maximum_of : Aggregate → ℤ
maximum_of a = a.maximum

abbrev pub minimum_of : Aggregate → ℤ
minimum_of a = a.minimum

-- those that start at h or later
abbrev pub closed_from : ℕ → List Aggregate → List Aggregate
closed_from h cs = filter (λ (a : Aggregate). live h a.start) cs

-- the entry of an aggregate by one of its values, and those of a list
abbrev pub entry_by : {A : Type 0} → (Aggregate → A) → Aggregate → Entry A
entry_by f a = entry_with a.start (f a)

abbrev pub entries_by : {A : Type 0} → (Aggregate → A) → List Aggregate → List (Entry A)
entries_by f cs = map (entry_by f) cs

-- starts rise
abbrev pub Rising : List Aggregate → Type 0
Rising [] = Unit {0}
Rising (a ∷ cs) = Each (λ (b : Aggregate). a.start < b.start) cs × Rising cs

-- all start before a place
abbrev pub Before : ℕ → List Aggregate → Type 0
Before s cs = Each (λ (b : Aggregate). b.start < s) cs
