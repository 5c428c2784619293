-- The query list over a call: its length, and that of a machine that passes check 1; a list that passes check 2 is not
-- damaged.
-- Assumes nothing.
use Prim.Native.Nat.{ℕ, ◌≤◌}
use mathlib.Core.Path.{◌≡◌, refl, ap, ap₂, ◌∙◌}
use mathlib.Core.Bool.{true, false, ◌&&◌}
use mathlib.Core.List.{List}
use lib.Dec.{leb}
use lib.ListN.{length}
use borrow.Author.Tests.{leb-true}
use Rattle.window.specs.Refusals.{shared_number}
use Rattle.window.proofs.Lists.{and_left, and_right}
use Rattle.registry.specs.Records.{list_places, ListKept}
use Rattle.registry.proofs.Intact.{fits-few, fits-ordered, fits-intact}
use Rattle.registry.proofs.Ordering.{ordered_shared}
use Rattle.board.specs.Tables.{Tables, tables_long, zeroed_tables, TablesKept}
use Rattle.board.proofs.Lending.{kept-long, tables-zeroed-long}
use Rattle.engine.specs.declared.state.State.{State}
use Rattle.engine.specs.States.{Intact}
use Rattle.engine.specs.Machine.{Machine, machine, queries_of, machine_long}
use Rattle.engine.specs.Promises.{list_damaged}

-- a list that is not written
pub list_same : (l : List ℕ) → ListKept l l
list_same l = record { as_long = refl; beyond = refl }

-- ---- check 1

-- where it passes, the list has its length
pub long-list : (m : Machine) → machine_long m ≡ true → list_places ≤ length m.list
unfolding machine_long
long-list m e = leb-true list_places (length m.list) (and_left (leb list_places (length m.list)) (tables_long m.tables) e)

-- and so have the tables
pub long-tables : (m : Machine) → machine_long m ≡ true → tables_long m.tables ≡ true
unfolding machine_long
long-tables m e = and_right (leb list_places (length m.list)) (tables_long m.tables) e

-- it still passes after a call that keeps the lengths
pub still-long : (m : Machine) (st : State) (l : List ℕ) (t : Tables) → ListKept m.list l → TablesKept m.tables t → machine_long m ≡ true → machine_long (machine st l t) ≡ true
unfolding machine_long
still-long m st l t k w e =
    ap₂ ◌&&◌ (ap (leb list_places) k.as_long ∙ and_left (leb list_places (length m.list)) (tables_long m.tables) e) (kept-long m.tables t w (long-tables m e))

-- and after a start
pub zeroed-long : (m : Machine) (st : State) (l : List ℕ) (t : Tables) → ListKept m.list l → t ≡ zeroed_tables m.tables → machine_long m ≡ true → machine_long (machine st l t) ≡ true
unfolding machine_long
zeroed-long m st l t k z e =
    ap₂ ◌&&◌ (ap (leb list_places) k.as_long ∙ and_left (leb list_places (length m.list)) (tables_long m.tables) e) (ap tables_long z ∙ tables-zeroed-long m.tables)

-- ---- check 2

-- in a list that passes, no two queries share a number
pub intact-distinct : (m : Machine) → machine_long m ≡ true → Intact m.state m.list → shared_number (queries_of m) ≡ false
intact-distinct m e i =
    ordered_shared m.state.registered m.list (fits-few m.state.count m.state.registered m.list i.list) (long-list m e)
    (fits-ordered m.state.count m.state.registered m.list i.list)

-- a list that passes is not damaged as document 01 lists it
pub intact_undamaged : (m : Machine) → machine_long m ≡ true → Intact m.state m.list → list_damaged m ≡ false
intact_undamaged m e i = fits-intact m.state.count m.state.registered m.list (intact-distinct m e i) i.list
