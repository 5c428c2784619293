-- What a session means (document 01, "Session lines"): its lines, what each asks of the reference model, and what the
-- program prints.
-- Assumes nothing.
use Rattle.std.specs.Prelude.{ℕ, ◌+◌, ◌*◌, cond, List, [], ◌∷◌, ◌++◌, eqb, ℤ, pos, nat_abs, length, get_or, Result, Ok, Err}
use Rattle.std.specs.List.{onto_first}
use Rattle.window.specs.declared.refusal.Refusal.{Refusal}
use Rattle.window.specs.Queries.{query_limit}
use Rattle.window.specs.Refusals.{refusal_number, answer_places}
use Rattle.window.specs.Calls.{register, withdraw, reading, Answer, Outcome, accepted, refused}
use Rattle.window.specs.Model.{State, count, initial, Stepped, step}
use Rattle.parse.specs.declared.line.Line.{Line}
use Rattle.parse.specs.declared.line.Line.TheVariants.{Register, Withdraw, Reading}
use Rattle.parse.specs.Lines.{parsed}
use Rattle.print.specs.Lines.{answer_line, refusal_line, totals_line, answer_room}

-- ---- the lines of an input

-- a line ends at byte 10; a last line without it counts if it has a byte
abbrev pub lines : List ℕ → List (List ℕ)
lines [] = []
lines (b ∷ bs) = cond (eqb b 10) ([] ∷ lines bs) (onto_first b (lines bs))

-- ---- one line

-- the program's answer table is long enough for 32 answers
abbrev pub answer_table : ℕ
answer_table = answer_places * query_limit

-- what a line asks of the model; a line that is refused changes nothing
unfoldable pub line_step : State → Result Line Refusal → Stepped
line_step s (Ok (Register asked)) = step s (register asked.number asked.kind asked.range asked.slide)
line_step s (Ok (Withdraw number)) = step s (withdraw number)
line_step s (Ok (Reading value)) = step s (reading value answer_table)
line_step s (Err r) = record { state = s; outcome = refused (refusal_number r) }

-- an answer prints A, n, number, kind, count, value
unfoldable pub answer_text : ℕ → Answer → List ℕ
answer_text n a = answer_line n a.number a.kind a.count a.value

-- each answer prints a line
abbrev pub answer_texts : ℕ → List Answer → List ℕ
answer_texts n [] = []
answer_texts n (a ∷ more) = answer_text n a ++ answer_texts n more

-- what a line prints by its outcome, with n readings accepted: an accepted R or D has no answers and prints nothing; a
-- refused line prints E, its number and the refusal
unfoldable pub printed : (n line : ℕ) → Outcome → List ℕ
printed n line (accepted numbers answers) = answer_texts n answers
printed n line (refused k) = refusal_line line k

-- T, n, P, M, N
unfoldable pub totals_text : State → List ℕ
totals_text s = totals_line (count s) (length s.closed) s.max_comparisons s.min_comparisons

-- ---- one line after the other

-- the model's state, and how many lines came before
pub record Position : Type 0 where
  pub state : State
  pub lines : ℕ

-- a position, and what was printed up to it
pub record Reported : Type 0 where
  pub position : Position
  pub text : List ℕ

-- line number `line` came to this
abbrev pub step_reported : ℕ → Stepped → Reported
step_reported line t = record { position = record { state = t.state; lines = line }; text = printed (count t.state) line t.outcome }

-- one line: lines are numbered from 1
abbrev pub line_reported : Position → Result Line Refusal → Reported
line_reported p asked = step_reported (p.lines + 1) (line_step p.state asked)

-- the same with this text before it
abbrev pub after : List ℕ → Reported → Reported
after text r = record { position = r.position; text = text ++ r.text }

-- lines, one after the other
abbrev pub lines_reported : Position → List (List ℕ) → Reported
lines_reported p [] = record { position = p; text = [] }
lines_reported p (l ∷ ls) = after (line_reported p (parsed l)).text (lines_reported (line_reported p (parsed l)).position ls)

-- ---- a session

-- a fresh engine, and no line yet
abbrev pub fresh : Position
fresh = record { state = initial; lines = 0 }

-- all that was printed, and at the end T, n, P, M, N
abbrev pub finished : Reported → List ℕ
finished r = r.text ++ totals_text r.position.state

-- what the program prints on an input
unfoldable pub session_output : List ℕ → List ℕ
session_output input = finished (lines_reported fresh (lines input))

-- ---- for the code

-- answer i of an answer table
abbrev pub answer_at : List ℤ → ℕ → Answer
answer_at t i =
    record {
      number = nat_abs (get_or t (answer_places * i) (pos 0));
      kind = nat_abs (get_or t (answer_places * i + 1) (pos 0));
      count = nat_abs (get_or t (answer_places * i + 2) (pos 0));
      value = get_or t (answer_places * i + 3) (pos 0);
    }

-- how many bytes a line prints at most: 32 answers
abbrev pub line_room : ℕ
line_room = answer_room * query_limit
