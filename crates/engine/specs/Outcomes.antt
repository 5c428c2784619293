-- Document 01's numbers and values for what the calls return, and the state after them.
-- Assumes nothing.
use Rattle.std.specs.Prelude.{ℕ, List, [], ◌∷◌, ℤ, Result, Ok, Err}
use Rattle.window.specs.declared.refusal.Refusal.{Refusal}
use Rattle.window.specs.Refusals.{Verdict, refusal_number}
use Rattle.window.specs.Calls.{Outcome, accepted, refused}
use Rattle.engine.specs.declared.calls.Answered.{Answered}
use Rattle.engine.specs.declared.calls.Tally.{Tally}
use Rattle.engine.specs.declared.state.State.{State}
use Rattle.engine.specs.Answers.{answers_in}

-- what checks came to, without what they hand on
abbrev pub verdict_in : {T : Type 0} → Result T Refusal → Verdict
verdict_in (Ok x) = Ok tt
verdict_in (Err r) = Err r

-- accepted start, register and withdraw calls return 0
abbrev pub verdict_outcome : Verdict → Outcome
verdict_outcome (Ok x) = accepted (0 ∷ []) []
verdict_outcome (Err r) = refused (refusal_number r)

-- what a start, a registration or a withdrawal returns
abbrev pub state_outcome : Result State Refusal → Outcome
state_outcome r = verdict_outcome (verdict_in r)

-- the caller's state after it: as it was, where it was refused
abbrev pub state_after : State → Result State Refusal → State
state_after st (Ok next) = next
state_after st (Err r) = st

-- how many answers a reading wrote
abbrev pub answers_written : Result Answered Refusal → Result ℕ Refusal
answers_written (Ok a) = Ok a.answers
answers_written (Err r) = Err r

-- an accepted reading returns the number of its answers, which are read from the answer places in order
abbrev pub reading_outcome : Result ℕ Refusal → List ℤ → Outcome
reading_outcome (Ok k) places = accepted (k ∷ []) (answers_in k places)
reading_outcome (Err r) places = refused (refusal_number r)

-- the caller's state after it
abbrev pub reading_state : State → Result Answered Refusal → State
reading_state st (Ok a) = a.state
reading_state st (Err r) = st

-- n, P, M and N of a state
abbrev pub tally_of : State → Tally
tally_of st =
    record {
      count = st.count;
      closed = st.board.closed;
      max_comparisons = st.board.maxima.comparisons;
      min_comparisons = st.board.minima.comparisons;
    }

-- totals returns n, P, M and N
abbrev pub totals_outcome : Result Tally Refusal → Outcome
totals_outcome (Ok t) = accepted (t.count ∷ t.closed ∷ t.max_comparisons ∷ t.min_comparisons ∷ []) []
totals_outcome (Err r) = refused (refusal_number r)
