-- Demand 3: the engine's run of a list of calls and the model's agree.
-- Assumes nothing.
use mathlib.Core.Path.{◌≡◌, refl, sym, ap₂, ◌∙◌, subst}
use Prim.Native.Nat.{ℕ}
use mathlib.Core.List.{List, ◌∷◌}
use lib.ListN.{length-map}
use Rattle.window.specs.Calls.{Call, start, register, withdraw, reading, totals, Outcome}
use Rattle.window.specs.Model as model
use Rattle.window.specs.Model.{initial, step_at, run, run_at, reached}
use Rattle.window.specs.Queries.{count_limit}
use Rattle.window.proofs.Steps.{refused_from_three}
use Rattle.board.specs.Boards.{Within}
use Rattle.board.proofs.Holding.{board-live, holds-within}
use Rattle.engine.specs.Machine.{Machine, machine_long, horizon_of, closed_of, ledger_of, Represents, RepresentsAt}
use Rattle.engine.specs.Promises.{EnsuresAt}
use Rattle.engine.specs.Demand3.{PerformsAt, Performs, Performed, ended, called, Fresh, Demand3, FromStart, BoardLive, NeverDamaged}

module _ (limit : ℕ) where
  -- one call on what represents a state of the model: the outcome is the model's, and what is left represents the
  -- model's next state
  pub record Follows (s : model.State) (c : Call) (o : Outcome) (m' : Machine) : Type 0 where
    pub agrees : o ≡ (step_at limit s c).outcome
    pub represents : RepresentsAt limit (step_at limit s c).state m'

  -- a call other than start and reading
  ensured : (s : model.State) (c : Call) (m : Machine) (o : Outcome) (m' : Machine) → EnsuresAt limit c m o m' → RepresentsAt limit s m → Follows s c o m'
  ensured s c m o m' e rep = record { agrees = e.agrees s rep; represents = e.represents s rep }

  -- whichever call it is
  pub follows : (s : model.State) (c : Call) (m : Machine) (o : Outcome) (m' : Machine) → PerformsAt limit c m o m' → RepresentsAt limit s m → Follows s c o m'
  unfolding step_at
  follows s start m o m' e rep = record { agrees = e.accepts rep.long; represents = e.represents rep.long }
  follows s (register number kind range slide) m o m' e rep = ensured s (register number kind range slide) m o m' e rep
  follows s (withdraw number) m o m' e rep = ensured s (withdraw number) m o m' e rep
  follows s (reading v places) m o m' e rep =
      subst (λ n. Follows s (reading v n) o m') e.long (ensured s (reading v _) m o m' e.ensures.ensures rep)
  follows s totals m o m' e rep = ensured s totals m o m' e rep

  -- a list of calls on what represents s
  pub performed : (s : model.State) {m m' : Machine} {cs : List Call} {os : List Outcome} → RepresentsAt limit s m → Performed (PerformsAt limit) m cs os m'
      → (os ≡ (run_at limit s cs).outcomes) × RepresentsAt limit (run_at limit s cs).state m'
  performed s rep ended = (refl, rep)
  performed s {m} rep (called {m' = n} {c = c} {o = o} e rest) =
      let f : Follows s c o n = follows s c m o n e rep in
      let k = performed (step_at limit s c).state f.represents rest in
      (ap₂ (λ (x : Outcome) (xs : List Outcome). x ∷ xs) f.agrees k.0, k.1)

-- a fresh engine
abbrev FreshMachine : Machine → Type 0
FreshMachine m = Fresh (λ (x : Machine). x) machine_long Performs m

-- a list of calls from fresh, on both sides
from_start-outcomes : (fresh : Machine) → FreshMachine fresh → (calls : List Call) (outcomes : List Outcome) (m : Machine) → Performed Performs fresh calls outcomes m
    → (outcomes ≡ (run initial calls).outcomes) × Represents (reached calls) m
from_start-outcomes fresh f calls outcomes m p = performed count_limit initial (f.started.represents f.long) p

-- demand 3
pub demand_3 : Demand3
unfolding step_at
demand_3 fresh f calls outcomes m p =
    let k = from_start-outcomes fresh f calls outcomes m p in
    let rep : Represents (reached calls) m = k.1 in
    let b : Within m.state.board = holds-within (horizon_of (reached calls)) (ledger_of (reached calls)) m.state.board m.tables rep.state.board in
    record {
      agrees =
          record {
            outcomes = k.0;
            queries = rep.list.queries;
            unused = rep.list.tidy;
            readings = rep.state.count;
            partials = rep.state.board.closed ∙ length-map (reached calls).closed (closed_of (reached calls).readings);
            maxima = rep.state.board.max_total;
            minima = rep.state.board.min_total;
            max_bound = b.max_total;
            min_bound = b.min_total;
          };
      totalled = λ o m' e. e.agrees (reached calls) rep;
    }

-- what came from a start represents the model's state
pub from_start : FromStart
from_start fresh f calls outcomes m p = (from_start-outcomes fresh f calls outcomes m p).1

-- so its tables hold what is live, and what stands of it
pub from_start-live : BoardLive
from_start-live fresh f calls outcomes m p =
    board-live (horizon_of (reached calls)) (ledger_of (reached calls)) m.state.board m.tables (from_start fresh f calls outcomes m p).state.board

-- a state and tables that came from a start are never given 1 or 2
pub never-damaged : NeverDamaged
never-damaged fresh f calls outcomes m p c o m' e k i =
    refused_from_three (reached calls) c k (sym (follows count_limit (reached calls) c m o m' e (from_start fresh f calls outcomes m p)).agrees ∙ i)
