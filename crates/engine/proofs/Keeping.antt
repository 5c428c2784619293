-- Tables beyond their first 4,096 places, and their lengths, over a call.
-- Assumes nothing.
use mathlib.Core.Path.{◌≡◌, sym, ap, subst}
use mathlib.Core.Bool.{Bool, true, false}
use Prim.Native.Nat.{ℕ}
use Rattle.engine.specs.declared.partial.Open.{Open}
use Rattle.engine.specs.declared.partial.Open.TheVariants.{Nothing, Empty, Holding}
use Rattle.engine.specs.declared.state.State.{State}
use Rattle.board.specs.Tables.{Tables, tables_long, TablesKept}
use Rattle.board.proofs.Lending.{tables-same, kept-long}
use Rattle.engine.specs.Closings.{OpenClosed, ClosedWhere}

-- a closing keeps the tables
pub open_closed-kept : (o : Open) (h : ℕ) (st : State) (t : Tables) (st' : State) (t' : Tables) → OpenClosed o h st t st' t' → TablesKept t t'
open_closed-kept Nothing h st t st' t' c = subst (TablesKept t) (sym c.1) (tables-same t)
open_closed-kept Empty h st t st' t' c = subst (TablesKept t) (sym c.1) (tables-same t)
open_closed-kept (Holding a) h st t st' t' c = c.board.kept

-- also where it depends on a test
pub closed_where_kept : (b : Bool) (h : ℕ) (st : State) (t : Tables) (st' : State) (t' : Tables) → ClosedWhere b h st t st' t' → TablesKept t t'
unfolding ClosedWhere
closed_where_kept true h st t st' t' c = open_closed-kept st.partial h st t st' t' c
closed_where_kept false h st t st' t' c = subst (TablesKept t) (sym c.1) (tables-same t)

-- after a closing the tables are as long as they were
pub closed-long : (o : Open) (h : ℕ) (st : State) (t : Tables) (st' : State) (t' : Tables) → OpenClosed o h st t st' t' → tables_long t ≡ true → tables_long t' ≡ true
closed-long o h st t st' t' c = kept-long t t' (open_closed-kept o h st t st' t' c)

-- ---- the registered queries

-- a closing leaves them as many as they were
pub open_registered : (o : Open) (h : ℕ) (st : State) (t : Tables) (st' : State) (t' : Tables) → OpenClosed o h st t st' t' → st'.registered ≡ st.registered
open_registered Nothing h st t st' t' c = ap (λ (x : State). x.registered) c.0
open_registered Empty h st t st' t' c = ap (λ (x : State). x.registered) c.0
open_registered (Holding a) h st t st' t' c = c.registered

-- also where it depends on a test
pub where_registered : (b : Bool) (h : ℕ) (st : State) (t : Tables) (st' : State) (t' : Tables) → ClosedWhere b h st t st' t' → st'.registered ≡ st.registered
unfolding ClosedWhere
where_registered true h st t st' t' c = open_registered st.partial h st t st' t' c
where_registered false h st t st' t' c = ap (λ (x : State). x.registered) c.0
