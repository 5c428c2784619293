-- The ledger of the model's closed partials: its entries are those of the partials, later readings do not change it,
-- and a closing in the model is one in the ledger.
-- Assumes nothing.
use mathlib.Core.Path.{◌≡◌, refl, ap}
use mathlib.Core.Bool.{Bool}
use mathlib.Core.List.{List, [], ◌∷◌, ◌++◌, map}
use Prim.Native.Nat.{ℕ}
use native.Mathlib.Omega.{arith}
use lib.IntN.{ℤ}
use lib.Signed.{le_z}
use lib.ListN.{length}
use Rattle.window.specs.Orders.{ge_z, extreme}
use Rattle.window.specs.Queries.{horizon}
use Rattle.window.specs.Partials.{Partial, spanning, readings_of, entries, live, partials_from, value_of}
use Rattle.window.specs.Model as model
use Rattle.window.specs.Model.{count, standing_at, closing_comparisons, close_at}
use Rattle.window.specs.Invariant.{Ordered}
use Rattle.window.proofs.Lists.{filter_map}
use Rattle.window.proofs.Tiling.{ordered_le, between_stable}
use Rattle.board.specs.declared.aggregate.Aggregate.{Aggregate}
use Rattle.board.specs.Aggregates.{maximum_of, minimum_of, closed_from, entries_by, Before}
use Rattle.board.specs.Ledgers as ledgers
use Rattle.board.specs.Ledgers.{close_with}
use Rattle.engine.specs.Machine.{horizon_of, closed_of, ledger_of}

-- those from a place on
pub from_closed : (rs : List ℤ) (h : ℕ) (ps : List Partial) → closed_from h (map (closed_of rs) ps) ≡ map (closed_of rs) (partials_from h ps)
from_closed rs h ps = filter_map (closed_of rs) (λ (a : Aggregate). live h a.start) ps

-- one of the three values, by the function of readings that it is
module _ (rs : List ℤ) (f : Aggregate → ℤ) (g : List ℤ → ℤ) (same : (p : Partial) → f (closed_of rs p) ≡ g (readings_of rs p)) where
  -- the entries are those of the partials
  pub entries-closed : (ps : List Partial) → entries_by f (map (closed_of rs) ps) ≡ entries g rs ps
  entries-closed [] = refl
  entries-closed (p ∷ ps) = rw (same p, entries-closed ps) refl

  -- and the values those of the entries
  pub values-closed : (ps : List Partial) → map f (map (closed_of rs) ps) ≡ map value_of (entries g rs ps)
  values-closed [] = refl
  values-closed (p ∷ ps) = rw (same p, values-closed ps) refl

-- later readings do not change them
pub closed_stable : (rs more : List ℤ) (a : ℕ) (ps : List Partial) → Ordered a ps (length rs) → map (closed_of (rs ++ more)) ps ≡ map (closed_of rs) ps
closed_stable rs more a [] h = refl
closed_stable rs more a (p ∷ ps) h =
    rw (between_stable rs more p.start p.stop (ordered_le p.stop ps (length rs) h.2), closed_stable rs more p.stop ps h.2) refl

-- all start before what they are over by
pub closed-before : (rs : List ℤ) (a : ℕ) (ps : List Partial) (c : ℕ) → Ordered a ps c → Before c (map (closed_of rs) ps)
closed-before rs a [] c o = tt
closed-before rs a (p ∷ ps) c o = (omega (arith, o.1, ordered_le p.stop ps c o.2), closed-before rs p.stop ps c o.2)

map_snoc : (rs : List ℤ) (ps : List Partial) (p : Partial) → map (closed_of rs) (ps ++ (p ∷ [])) ≡ map (closed_of rs) ps ++ (closed_of rs p ∷ [])
map_snoc rs [] p = refl
map_snoc rs (q ∷ qs) p = ap (λ (xs : List Aggregate). closed_of rs q ∷ xs) (map_snoc rs qs p)

-- the comparisons of a closing are the model's, by the order of maxima or of minima
comparisons-closed : (s : model.State) (below : ℤ → ℤ → Bool) (f : Aggregate → ℤ) → ((q : Partial) → f (closed_of s.readings q) ≡ extreme below (readings_of s.readings q)) → (p : Partial)
    → ledgers.closing_comparisons below f (horizon_of s) (closed_of s.readings p) (map (closed_of s.readings) s.closed) ≡ closing_comparisons below s p
unfolding closing_comparisons standing_at
comparisons-closed s below f same p =
    let h : ℕ = horizon_of s in
    rw (from_closed s.readings h s.closed, entries-closed s.readings f (extreme below) same (partials_from h s.closed), same p) refl

-- a closing in the model is one in the ledger
pub ledger-closed : (s : model.State) (a : ℕ) → close_with (horizon (count s) s.queries) (closed_of s.readings (spanning a (count s))) (ledger_of s) ≡ ledger_of (close_at s a)
unfolding close_at
ledger-closed s a =
    let p : Partial = spanning a (count s) in
    rw (comparisons-closed s le_z maximum_of (λ q. refl) p, comparisons-closed s ge_z minimum_of (λ q. refl) p, map_snoc s.readings s.closed p) refl

-- an aggregate is that of its values
pub aggregate_is : (a : Aggregate) (x y z : ℤ) → a.sum ≡ x → a.maximum ≡ y → a.minimum ≡ z → a ≡ record { start = a.start; sum = x; maximum = y; minimum = z }
aggregate_is a x y z e f g = rw (← e, ← f, ← g) refl
