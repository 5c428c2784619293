-- The reference model (document 01: the bench reckoner). It keeps every reading and evaluates each window anew.
-- Assumes nothing.
use Rattle.std.specs.Prelude.{ℕ, ◌+◌, Bool, false, not, cond, List, [], ◌∷◌, ◌++◌, map, ltb, eqb, ℤ, pos, length, Ok, Err}
use Rattle.std.proofs.Math.Option.{Option, none, some}
use Rattle.std.specs.Int.Signed.{le_z}
use Rattle.window.specs.declared.query.Query.{Query}
use Rattle.window.specs.Lists.{filter, any}
use Rattle.window.specs.Orders.{ge_z, sum, extreme, maximum, minimum}
use Rattle.window.specs.Queries.{count_limit, sum_kind, count_kind, maximum_kind, joining, edge, window_start, horizon}
use Rattle.window.specs.Partials.{Partial, spanning, Entry, between, entry, entries, partials_from}
use Rattle.window.specs.Standing.{standing, comparisons}
use Rattle.window.specs.Refusals.{Verdict, refusal_number, first_refusal, register_checks, withdraw_checks, reading_checks_at, has_number, due_at}
use Rattle.window.specs.Calls.{Call, start, register, withdraw, reading, totals, Answer, Outcome, accepted, refused}

-- ---- the state

pub record State : Type 0 where
  -- all readings since start, in order
  pub readings : List ℤ
  -- the registered queries, in order of registration
  pub queries : List Query
  -- the start of the open partial, or none
  pub open_start : Option ℕ
  -- the closed partials since start, in the order of closing
  pub closed : List Partial
  -- M and N: the comparisons of partials, for maxima and for minima
  pub max_comparisons : ℕ
  pub min_comparisons : ℕ

-- a state from its parts, in this order
abbrev pub state_with : List ℤ → List Query → Option ℕ → List Partial → ℕ → ℕ → State
state_with readings queries open_start closed maxima minima =
    record {
      readings = readings;
      queries = queries;
      open_start = open_start;
      closed = closed;
      max_comparisons = maxima;
      min_comparisons = minima;
    }

-- n: the count of accepted readings since the last start
abbrev pub count : State → ℕ
count s = length s.readings

-- start: everything empty, open partial none, totals 0
abbrev pub initial : State
initial = state_with [] [] none [] 0 0

-- ---- a closing

-- the standing partials at a closing: first those that are not live are set aside
unfoldable pub standing_at : (ℤ → ℤ → Bool) → State → List (Entry ℤ)
standing_at below s =
    standing below (entries (extreme below) s.readings (partials_from (horizon (count s) s.queries) s.closed))

-- what the closing of p adds to M (`le_z`) or to N (`ge_z`)
unfoldable pub closing_comparisons : (ℤ → ℤ → Bool) → State → Partial → ℕ
closing_comparisons below s p = comparisons below (standing_at below s) (entry (extreme below) s.readings p)

-- the open partial, which starts at a, closes at n, and a new one starts at n
unfoldable pub close_at : State → ℕ → State
close_at s a =
    let p : Partial = spanning a (count s) in
    state_with s.readings s.queries (some (count s)) (s.closed ++ (p ∷ []))
    (s.max_comparisons + closing_comparisons le_z s p)
    (s.min_comparisons + closing_comparisons ge_z s p)

-- the open partial, if there is one, closes where the test holds
unfoldable pub close_where : Bool → Option ℕ → State → State
close_where test none s = s
close_where test (some a) s = cond test (close_at s a) s

-- ---- the accepted calls

-- an open partial that starts at a holds a reading where a is before n
abbrev pub holds_reading : ℕ → Option ℕ → Bool
holds_reading n none = false
holds_reading n (some a) = ltb a n

-- the query joins the end of the list, and the open partial starts at n
unfoldable pub with_query : State → Query → State
with_query s q =
    state_with s.readings (s.queries ++ (q ∷ [])) (some (count s)) s.closed s.max_comparisons s.min_comparisons

-- register: if an open partial holds a reading, it is closed. Then the query joins.
unfoldable pub after_register : State → Query → State
after_register s q = with_query (close_where (holds_reading (count s) s.open_start) s.open_start s) q

-- the open partial is dropped unclosed where no query is left
abbrev pub open_if_any : List Query → Option ℕ → Option ℕ
open_if_any [] o = none
open_if_any (q ∷ qs) o = o

-- withdraw: the query leaves, the others keep their order
unfoldable pub after_withdraw : State → ℕ → State
after_withdraw s number =
    let rest : List Query = filter (λ (q : Query). not (has_number number q)) s.queries in
    state_with s.readings rest (open_if_any rest s.open_start) s.closed s.max_comparisons s.min_comparisons

-- the reading joins the readings, and n grows by one
unfoldable pub reading_taken : State → ℤ → State
reading_taken s v =
    state_with (s.readings ++ (v ∷ [])) s.queries s.open_start s.closed s.max_comparisons s.min_comparisons

-- if n is an edge of some registered query, the open partial closes; with no query registered there is no edge
unfoldable pub close_at_edge : State → State
close_at_edge s = close_where (any (edge (count s)) s.queries) s.open_start s

-- reading: it joins, and what is open closes at an edge
unfoldable pub after_reading : State → ℤ → State
after_reading s v = close_at_edge (reading_taken s v)

-- ---- answers, from the raw readings

-- the value of a kind over the readings of a window; a kind that is none of the first three is 4, the minimum
abbrev pub window_value : ℕ → List ℤ → ℤ
window_value kind w =
    cond (eqb kind sum_kind) (sum w)
    (cond (eqb kind count_kind) (pos (length w))
    (cond (eqb kind maximum_kind) (maximum w) (minimum w)))

-- the readings of the window of q at n
abbrev pub window : List ℤ → Query → List ℤ
window readings q = between readings (window_start (length readings) q) (length readings)

-- the answer of q from the raw readings: query number, kind, count of readings in the window, value
unfoldable pub answer : List ℤ → Query → Answer
answer readings q =
    let w : List ℤ = window readings q in
    record { number = q.number; kind = q.kind; count = length w; value = window_value q.kind w }

-- the due queries are answered in registration order
unfoldable pub answers : State → List Answer
answers s = map (answer s.readings) (due_at (count s) s.queries)

-- ---- a call

-- the state after a call, and what the call returned
pub record Stepped : Type 0 where
  pub state : State
  pub outcome : Outcome

-- accepted start, register and withdraw calls return 0
abbrev pub done : State → Stepped
done s = record { state = s; outcome = accepted (0 ∷ []) [] }

-- an accepted reading returns the number of its answers
unfoldable pub answered : State → Stepped
answered s = record { state = s; outcome = accepted (length (answers s) ∷ []) (answers s) }

-- totals: n, P, M, N, changing nothing
unfoldable pub totals_of : State → Stepped
totals_of s =
    record {
      state = s;
      outcome = accepted (count s ∷ length s.closed ∷ s.max_comparisons ∷ s.min_comparisons ∷ []) [];
    }

-- a refused call returns its number and hands the state back equal
abbrev pub judged : Verdict → State → Stepped → Stepped
judged (Ok _) s t = t
judged (Err r) s t = record { state = s; outcome = refused (refusal_number r) }

-- the query that a registration brings, with g = n
abbrev pub new_query : State → (number kind range slide : ℕ) → Query
new_query s number kind range slide = joining number kind range slide (count s)

-- one call: the checks of its kind are judged on the state and the call, then it is done
unfoldable pub step_at : ℕ → State → Call → Stepped
step_at limit s start = done initial
step_at limit s (register number kind range slide) =
    judged (first_refusal (register_checks s.queries number kind range slide)) s
    (done (after_register s (new_query s number kind range slide)))
step_at limit s (withdraw number) =
    judged (first_refusal (withdraw_checks s.queries number)) s (done (after_withdraw s number))
step_at limit s (reading v places) =
    judged (first_refusal (reading_checks_at limit (count s) s.queries places)) s (answered (after_reading s v))
step_at limit s totals = totals_of s

-- with the limit of this form
abbrev pub step : State → Call → Stepped
step s c = step_at count_limit s c

-- ---- a list of calls

-- what each call of a list returned, in order, and the state after them
pub record Ran : Type 0 where
  pub outcomes : List Outcome
  pub state : State

-- a first outcome, and then those of the rest
abbrev pub followed_by : Outcome → Ran → Ran
followed_by o r = record { outcomes = o ∷ r.outcomes; state = r.state }

-- a list of calls, each on the state that the call before left
abbrev pub run_at : ℕ → State → List Call → Ran
run_at limit s [] = record { outcomes = []; state = s }
run_at limit s (c ∷ cs) = followed_by (step_at limit s c).outcome (run_at limit (step_at limit s c).state cs)

-- with the limit of this form
abbrev pub run : State → List Call → Ran
run s cs = run_at count_limit s cs

-- the state after a list of calls on a fresh model
abbrev pub reached : List Call → State
reached cs = (run initial cs).state
