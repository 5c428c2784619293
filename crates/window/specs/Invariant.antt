-- What holds of the reference model after every list of calls from a start. `proofs/Preserved.antt` proves the
-- invariant, `proofs/Bounds.antt` the bounds.
-- Assumes nothing.
use Rattle.std.specs.Prelude.{ℕ, ◌+◌, ◌≤◌, ◌<◌, ◌≡◌, Bool, true, false, ◌||◌, List, [], ◌∷◌, map, eqb, ℤ, length}
use Rattle.std.proofs.Math.Option.{Option, none, some}
use Rattle.window.specs.declared.query.Query.{Query}
use Rattle.window.specs.Lists.{Each}
use Rattle.window.specs.Orders.{Order, sum, extreme}
use Rattle.window.specs.Queries.{Limits, length_limit, query_limit, count_limit, due, edge, window_start, window_count, horizon}
use Rattle.window.specs.Partials.{Partial, Entry, entries, partials_from, entries_from, value_of}
use Rattle.window.specs.Refusals.{is_registered, damaged}
use Rattle.window.specs.Model.{State, count, window}

-- ---- how partials lie

-- partials that hold a reading each, from a on, none starting before the end of the one before it, all over by c
abbrev pub Ordered : ℕ → List Partial → ℕ → Type 0
Ordered a [] c = a ≤ c
Ordered a (p ∷ ps) c = (a ≤ p.start) × (p.start < p.stop) × Ordered p.stop ps c

-- partials that hold a reading each, and together readings a + 1 to c without a gap
abbrev pub Tiles : ℕ → List Partial → ℕ → Type 0
Tiles a [] c = a ≡ c
Tiles a (p ∷ ps) c = (p.start ≡ a) × (p.start < p.stop) × Tiles p.stop ps c

-- entries whose starts never fall: what the laws of standing entries and the searches in a ring ask of a list
abbrev pub Sorted : {A : Type 0} → List (Entry A) → Type 0
Sorted [] = Unit {0}
Sorted {A} (x ∷ xs) = Each (λ (y : Entry A). x.start ≤ y.start) xs × Sorted xs

-- a partial holds at most 4,096 readings
abbrev pub Short : Partial → Type 0
Short p = p.stop ≤ p.start + length_limit

-- ---- what the partials are to a query

-- a window of q can begin or end at m: its registration point, or an edge
abbrev pub marks : ℕ → Query → Bool
marks m q = eqb m q.origin || edge m q

-- where n readings were taken, ps are closed and the open partial starts at a
pub record Tracked (n : ℕ) (ps : List Partial) (a : ℕ) (q : Query) : Type 0 where
  -- the open partial began at the registration or later
  pub early : q.origin ≤ a
  -- from each place where a window of q can begin or end, the closed partials tile the readings up to the open one
  pub tiled : (m : ℕ) → m ≤ n → marks m q ≡ true → Tiles m (partials_from m ps) a

-- no two queries share a number
abbrev pub Distinct : List Query → Type 0
Distinct [] = Unit {0}
Distinct (q ∷ qs) = (is_registered q.number qs ≡ false) × Distinct qs

-- with no open partial: no query is registered. With one that starts at a: some query is, and every registered query is
-- tracked
abbrev pub Shape : Option ℕ → ℕ → List Query → List Partial → Type 0
Shape none n qs ps = (qs ≡ []) × Ordered 0 ps n
Shape (some a) n qs ps = (a ≤ n) × Ordered 0 ps a × (1 ≤ length qs) × Each (Tracked n ps a) qs

-- ---- the whole

-- what does not depend on the open partial
pub record WithinLimitsAt (limit : ℕ) (s : State) : Type 0 where
  pub few : length s.queries ≤ query_limit
  pub distinct : Distinct s.queries
  pub limits : Each Limits s.queries
  pub counted : count s ≤ limit
  pub short : Each Short s.closed

pub record InvariantAt (limit : ℕ) (s : State) : Type 0 where
  pub shape : Shape s.open_start (count s) s.queries s.closed
  pub within_limits : WithinLimitsAt limit s

-- with the limit of this form
abbrev pub WithinLimits : State → Type 0
WithinLimits s = WithinLimitsAt count_limit s

abbrev pub Invariant : State → Type 0
Invariant s = InvariantAt count_limit s

-- ---- what follows from it for windows

-- the window of q at n, from the closed partials that start at its window start or later: its count by the numbers
-- alone, its sum as the sum of their sums, and its extreme, by every order, as that of their extremes
pub record FromPartials (s : State) (q : Query) : Type 0 where
  pub counts : length (window s.readings q) ≡ window_count (count s) q
  pub sums : sum (window s.readings q) ≡ sum (map value_of (entries_from (window_start (count s) q) (entries sum s.readings s.closed)))
  pub extremes : (below : ℤ → ℤ → Bool) → Order below
      → extreme below (window s.readings q) ≡ extreme below (map value_of (entries_from (window_start (count s) q) (entries (extreme below) s.readings s.closed)))

-- of every registered query that is due
abbrev pub DueFromPartials : State → Type 0
DueFromPartials s = Each (λ (q : Query). due (count s) q ≡ true → FromPartials s q) s.queries

-- ---- the bounds that follow from it

pub record Bounded (s : State) : Type 0 where
  -- P is at most n
  pub closed_count : length s.closed ≤ count s
  -- at most 4,096 closed partials are live
  pub live_few : length (partials_from (horizon (count s) s.queries) s.closed) ≤ length_limit
  -- an open partial is shorter than every slide, and holds fewer than 4,096 readings; a closed one holds at most 4,096
  pub open_within_slides : (a : ℕ) → s.open_start ≡ some a → Each (λ (q : Query). count s < a + q.slide) s.queries
  pub open_short : (a : ℕ) → s.open_start ≡ some a → count s < a + length_limit
  pub closed_short : Each Short s.closed
  -- every closed partial starts before n, which is the registration point of whatever is registered next
  pub closed_before : Each (λ (p : Partial). p.start < count s) s.closed
  -- no registration point is above n, and the queries are not taken for damaged
  pub origins_early : Each (λ (q : Query). q.origin ≤ count s) s.queries
  pub not_damaged : damaged (count s) (length s.queries) s.queries ≡ false
