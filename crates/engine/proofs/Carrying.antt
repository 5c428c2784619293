-- Calls that are made on something that stands for a machine, as a lent query list or lent numbers do: where each of
-- them is a call of the engine on that machine, what is claimed of every list of the engine's calls is so of theirs.
-- Assumes nothing.
use mathlib.Core.Path.{◌≡◌}
use mathlib.Core.Bool.{Bool, true}
use mathlib.Core.List.{List}
use Rattle.window.specs.Calls.{Call, start, totals, Outcome}
use Rattle.engine.specs.Machine.{Machine, machine_long}
use Rattle.engine.specs.Demand3.{Performs, Performed, ended, called, Fresh, Demand3On, FromStartOn, BoardLiveOn, NeverDamagedOn}
use Rattle.engine.proofs.Agreement.{demand_3, from_start, from_start-live, never-damaged}

-- `Long` is what the calls ask of it, and keep; check 1 (`passes`) gives it
module _ {M : Type 0} (machine_of : M → Machine) (passes : M → Bool) (performs : Call → M → Outcome → M → Type 0) (Long : M → Type 0)
    (opens : (m : M) → passes m ≡ true → Long m × (machine_long (machine_of m) ≡ true))
    (carried : (c : Call) (m : M) (o : Outcome) (m' : M) → Long m → performs c m o m' → Performs c (machine_of m) o (machine_of m') × Long m') where
  performed : {m m' : M} {cs : List Call} {os : List Outcome} → Long m → Performed performs m cs os m' → Performed Performs (machine_of m) cs os (machine_of m') × Long m'
  performed l ended = (ended, l)
  performed {m} l (called {m' = n} {c = c} {o = o} e rest) = let p = carried c m o n l e in let r = performed p.1 rest in (called p.0 r.0, r.1)

  -- from a start on: a fresh machine, a list of the engine's calls, and what they keep
  pub carried_run : (fresh : M) → Fresh machine_of passes performs fresh → (calls : List Call) (outcomes : List Outcome) (m : M) → Performed performs fresh calls outcomes m
      → Fresh (λ (x : Machine). x) machine_long Performs (machine_of fresh) × Performed Performs (machine_of fresh) calls outcomes (machine_of m) × Long m
  carried_run fresh f calls outcomes m p =
      let open-before = opens f.before f.long in
      let a = carried start f.before f.outcome fresh open-before.0 f.started in
      let r = performed a.1 p in
      (record { before = machine_of f.before; outcome = f.outcome; long = open-before.1; started = a.0 }, r.0, r.1)

  -- demand 3, and what stands beside it
  pub carried_demand_3 : Demand3On machine_of passes performs
  carried_demand_3 fresh f calls outcomes m p =
      let r = carried_run fresh f calls outcomes m p in
      let a = demand_3 (machine_of fresh) r.0 calls outcomes (machine_of m) r.1 in
      record { agrees = a.agrees; totalled = λ o m' e. a.totalled o (machine_of m') (carried totals m o m' r.2 e).0 }

  pub carried_from_start : FromStartOn machine_of passes performs
  carried_from_start fresh f calls outcomes m p =
      let r = carried_run fresh f calls outcomes m p in from_start (machine_of fresh) r.0 calls outcomes (machine_of m) r.1

  pub carried_live : BoardLiveOn machine_of passes performs
  carried_live fresh f calls outcomes m p =
      let r = carried_run fresh f calls outcomes m p in from_start-live (machine_of fresh) r.0 calls outcomes (machine_of m) r.1

  pub carried_never-damaged : NeverDamagedOn machine_of passes performs
  carried_never-damaged fresh f calls outcomes m p c o m' e =
      let r = carried_run fresh f calls outcomes m p in
      never-damaged (machine_of fresh) r.0 calls outcomes (machine_of m) r.1 c o (machine_of m') (carried c m o m' r.2 e).0
