-- What an accepted reading passes on from step to step: the state with the reading, what is left of it after the
-- closing, and the answers.
-- Assumes nothing.
use mathlib.Core.Path.{◌≡◌, refl, sym, ap, subst}
use mathlib.Core.List.{List, map}
use Prim.Native.Nat.{ℕ, ◌+◌, ◌*◌, ◌≤◌, ◌<◌}
use native.Mathlib.Omega.{arith}
use lib.IntN.{ℤ}
use lib.ListN.{length}
use Rattle.window.specs.declared.query.Query.{Query}
use Rattle.window.specs.Lists.{any, Each}
use Rattle.window.specs.Queries.{count_limit, edge, horizon}
use Rattle.window.specs.Refusals.{answer_places, due_at}
use Rattle.window.specs.Calls.{IsReading, Answer}
use Rattle.window.proofs.Lists.{each_map}
use Rattle.board.specs.declared.board.Board.{Board}
use Rattle.board.specs.Boards.{Usable}
use Rattle.engine.specs.declared.partial.Open.{Open}
use Rattle.engine.specs.declared.partial.Open.TheVariants.{Nothing, Empty, Holding}
use Rattle.engine.specs.declared.state.State.{State}
use Rattle.board.specs.Tables.{Tables}
use Rattle.engine.specs.States.{Sound, with_reading}
use Rattle.engine.specs.Closings.{Ready, OpenClosed, ClosedWhere}
use Rattle.engine.specs.Answers.{answer_in, Backing}
use Rattle.engine.proofs.Soundness.{sound_taken}

-- ---- the state with the reading

module _ (v : ℤ) (st taken : State) (is : taken ≡ with_reading v st) where
  -- it is ready for a closing
  pub taken_ready : Sound st → st.count < count_limit → IsReading v → Ready taken
  taken_ready ok room r = subst Ready (sym is) (sound_taken st ok v room r)

  -- n has grown by one
  pub taken-count : taken.count ≡ st.count + 1
  taken-count = ap (λ (x : State). x.count) is

  -- no query was registered after it
  pub taken_origins : (qs : List Query) → Each (λ (q : Query). q.origin ≤ st.count) qs → Each (λ (q : Query). q.origin ≤ taken.count) qs
  taken_origins qs h =
      each_map (λ (q : Query). q.origin ≤ st.count) (λ (q : Query). q.origin ≤ taken.count) (λ (q : Query) (l : q.origin ≤ st.count). omega (arith, l, taken-count)) qs h

  -- what closed, closed at the edges and the horizon of the count that has grown
  pub taken-closed : (qs : List Query) (t : Tables) (st' : State) (t' : Tables) → ClosedWhere (any (edge taken.count) qs) (horizon taken.count qs) taken t st' t'
      → ClosedWhere (any (edge (st.count + 1)) qs) (horizon (st.count + 1) qs) (with_reading v st) t st' t'
  taken-closed qs t st' t' c = subst (λ (x : State). ClosedWhere (any (edge x.count) qs) (horizon x.count qs) x t st' t') is c

-- ---- the state after the closing

-- the rings fit, and n and the number of queries are as they were
pub record Left (st st' : State) : Type 0 where
  pub count : st'.count ≡ st.count
  pub registered : st'.registered ≡ st.registered
  pub usable : Usable st'.board

-- so they are where nothing changes
same_left : (st st' : State) → Ready st → st' ≡ st → Left st st'
same_left st st' r e = subst (Left st) (sym e) (record { count = refl; registered = refl; usable = r.board.usable })

-- and after the closing of what is open
pub open_left : (o : Open) (h : ℕ) (st : State) (t : Tables) (st' : State) (t' : Tables) → Ready st → OpenClosed o h st t st' t' → Left st st'
open_left Nothing h st t st' t' r c = same_left st st' r c.0
open_left Empty h st t st' t' r c = same_left st st' r c.0
open_left (Holding a) h st t st' t' r c =
    record { count = c.count; registered = c.registered; usable = c.board.usable }

-- the answers of those that are due fit the answer table
pub due_fit : (n m places : ℕ) (qs : List Query) → m ≡ n + 1 → answer_places * length (due_at (n + 1) qs) ≤ places → answer_places * length (due_at m qs) ≤ places
due_fit n m places qs e l = rw e l

-- the answers of the same queries, on the same tables
pub answers_for : {b : Board} {given : List Answer} (n : ℕ) (qs qs' : List Query) (t t' : Tables) → qs ≡ qs' → t ≡ t'
    → ((x : Backing n qs b t) → given ≡ map (answer_in x.ledger.closed n) (due_at n qs))
    → (x : Backing n qs' b t') → given ≡ map (answer_in x.ledger.closed n) (due_at n qs')
answers_for {b} {given} n qs qs' t t' e f h =
    subst (λ (ys : List Query). (x : Backing n ys b t') → given ≡ map (answer_in x.ledger.closed n) (due_at n ys)) e
    (subst (λ (u : Tables). (x : Backing n qs b u) → given ≡ map (answer_in x.ledger.closed n) (due_at n qs)) f h)
