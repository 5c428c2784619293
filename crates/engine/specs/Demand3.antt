-- Demand 3: for every list of calls the engine and the reference model, both fresh, accept and refuse the same calls,
-- return the same numbers and answers, and end alike. It is stated of whatever a caller holds that stands for a
-- machine, so that the layers above instantiate it; `proofs/Agreement.antt` proves it of the engine.
-- Assumes nothing.
use Rattle.std.specs.Prelude.{ℕ, ◌*◌, ◌-◌, ◌≤◌, ◌≡◌, Bool, true, List, [], ◌∷◌, ℤ, length, Result}
use Rattle.window.specs.Queries.{count_limit}
use Rattle.window.specs.Calls.{Call, start, register, withdraw, reading, totals, Outcome, refused}
use Rattle.window.specs.Model.{count, initial, totals_of, Ran, run, reached}
use Rattle.registry.specs.Records.{Tidy}
use Rattle.board.specs.Boards.{HoldsLive}
use Rattle.window.specs.declared.refusal.Refusal.{Refusal}
use Rattle.engine.specs.Machine.{Machine, queries_of, machine_long, horizon_of, ledger_of, Represents}
use Rattle.engine.specs.Outcomes.{reading_outcome}
use Rattle.engine.specs.Promises.{Promise, EnsuresAt, ReadingEnsuresAt, StartEnsuresAt}

-- ---- a list of calls, of any type (`C`), with outcomes of any type (`O`), on whatever a caller holds (`M`)

-- each on what the call before left, with the outcome of each. `performs` says what one call promises. Of the five
-- calls: for every list of them whose numbers are of the types that the functions take, and all answer tables, there is
-- such a run from every fresh engine whose state and tables hold numbers of their types. Each of the five functions is
-- proved to return on every input, with no `requires`, and what it returns and leaves meets its contract, which is what
-- `performs` says; so the functions' own returns make one.
-- (That is read off the proofs of the functions; it is no law stated here.) The claims below speak of every run, and so
-- of those that the functions make
pub data Performed {C O M : Type 0} (performs : C → M → O → M → Type 0) : M → List C → List O → M → Type 0 where
  -- no call leaves all as it is
  ended : {m : M} → Performed performs m [] [] m
  -- a first call, and then the others on what it left
  called : {m m' m'' : M} {c : C} {cs : List C} {o : O} {os : List O}
      → performs c m o m' → Performed performs m' cs os m'' → Performed performs m (c ∷ cs) (o ∷ os) m''

-- ---- the five calls, on whatever a caller holds

-- what they promise: `on` carries what is promised of machines to what the caller holds, `reads` is what a reading with
-- so many answer places promises, and `tells` what totals does
abbrev pub PerformsOn : {M : Type 0} → (limit : ℕ) → (on : Promise → M → Outcome → M → Type 0) → (reads : ℤ → ℕ → M → Outcome → M → Type 0) → (tells : M → Outcome → M → Type 0)
    → Call → M → Outcome → M → Type 0
PerformsOn limit on reads tells start m o m' = on (StartEnsuresAt limit) m o m'
PerformsOn limit on reads tells (register number kind range slide) m o m' = on (EnsuresAt limit (register number kind range slide)) m o m'
PerformsOn limit on reads tells (withdraw number) m o m' = on (EnsuresAt limit (withdraw number)) m o m'
PerformsOn limit on reads tells (reading v places) m o m' = reads v places m o m'
PerformsOn limit on reads tells totals m o m' = tells m o m'

-- a reading is given an answer table of so many places, with any content; its answers are read from the places as it
-- leaves them. `promised` says what it promises; what it comes to, as one equation, stands at `places_after`
-- (`specs/Promises.antt`)
pub record Reads {M : Type 0} (promised : ℤ → List ℤ → List ℤ → M → Outcome → M → Type 0) (v : ℤ) (places : ℕ) (m : M) (o : Outcome) (m' : M) : Type 0 where
  pub before : List ℤ
  pub after : List ℤ
  pub returned : Result ℕ Refusal
  pub long : length before ≡ places
  pub read : o ≡ reading_outcome returned after
  pub ensures : promised v before after m o m'

-- the engine's call c on m came to o and left m': what the contracts of the five calls say of it
abbrev pub PerformsAt : ℕ → Call → Machine → Outcome → Machine → Type 0
PerformsAt limit c m o m' = PerformsOn limit (λ (p : Promise). p) (Reads (ReadingEnsuresAt limit)) (EnsuresAt limit totals) c m o m'

-- with the limit of this form
abbrev pub Performs : Call → Machine → Outcome → Machine → Type 0
Performs c m o m' = PerformsAt count_limit c m o m'

-- ---- the claim about the whole list

-- a run that came to the outcomes os and left m, against the model's run r of the same calls
pub record EndsAs (r : Ran) (os : List Outcome) (m : Machine) : Type 0 where
  -- for each call: acceptance or refusal, the numbers returned and, at an accepted reading, the answers
  pub outcomes : os ≡ r.outcomes
  -- after the list: the queries, with all unused records 0
  pub queries : queries_of m ≡ r.state.queries
  pub unused : Tidy m.state.registered m.list
  -- n, P, M and N
  pub readings : m.state.count ≡ count r.state
  pub partials : m.state.board.closed ≡ length r.state.closed
  pub maxima : m.state.board.maxima.comparisons ≡ r.state.max_comparisons
  pub minima : m.state.board.minima.comparisons ≡ r.state.min_comparisons
  -- M and N are at most 2 P - 2, which is 0 where P is 0
  pub max_bound : m.state.board.maxima.comparisons ≤ 2 * m.state.board.closed - 2
  pub min_bound : m.state.board.minima.comparisons ≤ 2 * m.state.board.closed - 2

-- of calls on something that stands for a machine; `passes` is check 1 on it
module _ {M : Type 0} (machine_of : M → Machine) (passes : M → Bool) (performs : Call → M → Outcome → M → Type 0) where
  -- a fresh engine: one just started on tables that pass check 1, whatever they held
  pub record Fresh (m : M) : Type 0 where
    pub before : M
    pub outcome : Outcome
    pub long : passes before ≡ true
    pub started : performs start before outcome m

  -- what is claimed of every list of calls from a start, of its outcomes and of what it leaves
  abbrev pub FromFresh : (List Call → List Outcome → M → Type 0) → Type 0
  FromFresh claim = (fresh : M) → Fresh fresh → (calls : List Call) (outcomes : List Outcome) (m : M)
      → Performed performs fresh calls outcomes m → claim calls outcomes m

  -- as the machine, and n, P, M and N as a totals call would return them
  pub record AgreesWith (r : Ran) (os : List Outcome) (m : M) : Type 0 where
    pub agrees : EndsAs r os (machine_of m)
    pub totalled : (o : Outcome) (m' : M) → performs totals m o m' → o ≡ (totals_of r.state).outcome

  -- demand 3
  abbrev pub Demand3On : Type 0
  Demand3On = FromFresh (λ (calls : List Call) (outcomes : List Outcome) (m : M). AgreesWith (run initial calls) outcomes m)

  -- beside it: what came from a start by these calls represents the state that the model comes to by them
  abbrev pub FromStartOn : Type 0
  FromStartOn = FromFresh (λ (calls : List Call) (outcomes : List Outcome) (m : M). Represents (reached calls) (machine_of m))

  -- its tables hold what is live, and what stands of it
  abbrev pub BoardLiveOn : Type 0
  BoardLiveOn = FromFresh (λ (calls : List Call) (outcomes : List Outcome) (m : M).
      HoldsLive (horizon_of (reached calls)) (ledger_of (reached calls)) (machine_of m).state.board (machine_of m).tables)

  -- and no call on it is refused with 1 or 2
  abbrev pub NeverDamagedOn : Type 0
  NeverDamagedOn = FromFresh (λ (calls : List Call) (outcomes : List Outcome) (m : M).
      (c : Call) (o : Outcome) (m' : M) → performs c m o m' → (k : ℕ) → o ≡ refused k → 3 ≤ k)

-- ---- of the engine itself

abbrev pub Demand3 : Type 0
Demand3 = Demand3On (λ (m : Machine). m) machine_long Performs

abbrev pub FromStart : Type 0
FromStart = FromStartOn (λ (m : Machine). m) machine_long Performs

abbrev pub BoardLive : Type 0
BoardLive = BoardLiveOn (λ (m : Machine). m) machine_long Performs

abbrev pub NeverDamaged : Type 0
NeverDamaged = NeverDamagedOn (λ (m : Machine). m) machine_long Performs
