-- What a board promises: it stands for a ledger.
-- Assumes nothing.
use Rattle.std.specs.Prelude.{ℕ, ◌+◌, ◌-◌, ◌*◌, ◌≤◌, ◌<◌, ◌≡◌, Bool, List, ℤ, length}
use Rattle.std.specs.Int.Signed.{le_z}
use Rattle.window.specs.Orders.{ge_z}
use Rattle.window.specs.Partials.{Entry, entries_from}
use Rattle.window.specs.Standing.{standing}
use Rattle.deque.specs.declared.extremes.Deque.{Deque}
use Rattle.deque.specs.Rings.{capacity, Fits}
use Rattle.deque.specs.Extremes.{entries_of}
use Rattle.deque.specs.Sums.{partials_of, FitsSums, InBounds}
use Rattle.board.specs.declared.aggregate.Aggregate.{Aggregate}
use Rattle.board.specs.declared.board.Board.{Board}
use Rattle.board.specs.declared.heads.Heads.{Heads}
use Rattle.board.specs.Aggregates.{sum_of, maximum_of, minimum_of, closed_from, entries_by, Rising, Before}
use Rattle.board.specs.Ledgers.{Ledger, nothing_closed, close_with, by_kind, value_over, Consistent}
use Rattle.board.specs.Tables.{Tables, TablesKept}

-- ---- what the code asks of a board

-- the rings lie within their tables, and the laps within their bounds
pub record Usable (b : Board) : Type 0 where
  pub sums : FitsSums b.sums
  pub max_ring : Fits b.maxima.ring
  pub min_ring : Fits b.minima.ring

-- M and N are at most 2 P - 2, which is 0 where P is 0
abbrev pub total_limit : ℕ → ℕ
total_limit closed = 2 * closed - 2

-- what check 2 asks
pub record Within (b : Board) : Type 0 where
  pub usable : Usable b
  pub max_total : b.maxima.comparisons ≤ total_limit b.closed
  pub min_total : b.minima.comparisons ≤ total_limit b.closed

-- ---- what it stands for

-- a deque holds, on its tables, what stands of these entries
pub record StandsOn (below : ℤ → ℤ → Bool) (es : List (Entry ℤ)) (starts : List ℕ) (values : List ℤ) (d : Deque) : Type 0 where
  pub fits : Fits d.ring
  pub entries : entries_of starts values d.ring ≡ standing below es

-- board and tables stand for the ledger l, seen from the horizon h on: P, M and N are the ledger's, and the tables hold
-- all that is closed and starts at h or later, with sums, and what stands of it for maxima and minima. What they hold
-- from before h is not looked at
pub record Holds (h : ℕ) (l : Ledger) (b : Board) (t : Tables) : Type 0 where
  -- P, M and N
  pub closed : b.closed ≡ length l.closed
  pub max_total : b.maxima.comparisons ≡ l.max_comparisons
  pub min_total : b.minima.comparisons ≡ l.min_comparisons
  pub consistent : Consistent l
  -- what the rings hold: these, which are what is closed as far as they start at h or later
  pub held : List Aggregate
  pub held_rising : Rising held
  pub live : closed_from h held ≡ closed_from h l.closed
  pub fits : FitsSums b.sums
  pub sums : partials_of t.starts t.sums b.sums ≡ entries_by sum_of held
  pub bounds : InBounds t.sums b.sums
  pub maxima : StandsOn le_z (entries_by maximum_of held) t.max_starts t.max_values b.maxima
  pub minima : StandsOn ge_z (entries_by minimum_of held) t.min_starts t.min_values b.minima

-- the same in document 01's words ("Conditions of acceptance"): of what the rings hold, the entries that start at the
-- horizon or later are what is closed from there on, with starts and sums, and for maxima and for minima what stands of
-- it, with starts and values. It follows (`board-live`)
pub record HoldsLive (h : ℕ) (l : Ledger) (b : Board) (t : Tables) : Type 0 where
  pub sums : entries_from h (partials_of t.starts t.sums b.sums) ≡ entries_by sum_of (closed_from h l.closed)
  pub maxima : entries_from h (entries_of t.max_starts t.max_values b.maxima.ring) ≡ standing le_z (entries_by maximum_of (closed_from h l.closed))
  pub minima : entries_from h (entries_of t.min_starts t.min_values b.minima.ring) ≡ standing ge_z (entries_by minimum_of (closed_from h l.closed))

-- ---- what the functions promise

-- an empty board stands for the ledger in which nothing is closed, at every horizon and on all tables
pub record EmptyEnsures (b : Board) : Type 0 where
  pub holds : (h : ℕ) (t : Tables) → Holds h nothing_closed b t

-- the closing of a with the horizon h, whatever the tables hold; and of a board that stands for a ledger, where a
-- starts after all that is closed and fewer than 4,096 places past the horizon: it stands for the ledger with a closed
pub record CloseEnsures (a : Aggregate) (h : ℕ) (b : Board) (t : Tables) (b' : Board) (t' : Tables) : Type 0 where
  pub usable : Usable b'
  pub kept : TablesKept t t'
  pub counted : b'.closed ≡ b.closed + 1
  pub holds : (l : Ledger) → Holds h l b t → Before a.start l.closed → a.start < h + capacity → Holds h (close_with h a l) b' t'

-- the value of a kind from a place on that is not before the horizon
pub record ValueEnsures (kind from : ℕ) (b : Board) (t : Tables) (r : ℤ) : Type 0 where
  pub value : (h : ℕ) (l : Ledger) → Holds h l b t → h ≤ from → r ≡ value_over kind (closed_from from l.closed)

-- the value of a kind, of those worked out for a window that begins at the horizon
unfoldable pub head_value : ℕ → Heads → ℤ
head_value kind v = by_kind kind v.sum v.maximum v.minimum

-- for every kind the value from the horizon on
pub record HeadsEnsures (horizon : ℕ) (b : Board) (t : Tables) (v : Heads) : Type 0 where
  pub values : (kind : ℕ) → ValueEnsures kind horizon b t (head_value kind v)
