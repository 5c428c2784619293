-- Partials: stretches of the readings that are aggregated once and shared by every window.
-- Assumes nothing.
use Rattle.std.specs.Prelude.{ℕ, Bool, List, map, leb}
use Rattle.std.proofs.Math.Seq.{slice}
use Rattle.window.specs.Lists.{filter}

-- a closed partial that starts at a and closes at b holds readings a + 1 to b
pub record Partial : Type 0 where
  pub start : ℕ
  pub stop : ℕ

-- the partial that starts at a and closes at b
abbrev pub spanning : ℕ → ℕ → Partial
spanning a b = record { start = a; stop = b }

-- readings a + 1 to b
abbrev pub between : {A : Type 0} → List A → ℕ → ℕ → List A
between readings a b = slice a b readings

-- the readings that a partial holds
abbrev pub readings_of : {A : Type 0} → List A → Partial → List A
readings_of readings p = between readings p.start p.stop

-- what is kept of a partial: its start, with an aggregate of its readings
pub record Entry (A : Type 0) : Type 0 where
  pub start : ℕ
  pub value : A

-- the value of an entry, as a function; the model does without it
abbrev pub value_of : {A : Type 0} → Entry A → A
value_of e = e.value

-- the entry of a partial, by the aggregate f
abbrev pub entry : {A B : Type 0} → (List A → B) → List A → Partial → Entry B
entry f readings p = record { start = p.start; value = f (readings_of readings p) }

-- the entries of partials, in their order
abbrev pub entries : {A B : Type 0} → (List A → B) → List A → List Partial → List (Entry B)
entries f readings ps = map (entry f readings) ps

-- a closed partial is live if its start is not before the horizon
abbrev pub live : ℕ → ℕ → Bool
live horizon start = leb horizon start

-- the partials that start at h or later: where h is the horizon, the live ones
abbrev pub partials_from : ℕ → List Partial → List Partial
partials_from h ps = filter (λ (p : Partial). live h p.start) ps

-- the same of entries
abbrev pub entries_from : {A : Type 0} → ℕ → List (Entry A) → List (Entry A)
entries_from {A} h es = filter (λ (e : Entry A). live h e.start) es
