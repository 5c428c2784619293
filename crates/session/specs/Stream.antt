-- A session byte by byte: what is known between two bytes of the input, and what each byte prints.
-- Assumes nothing.
use Rattle.std.specs.Prelude.{ℕ, Bool, true, false, cond, List, [], ◌∷◌, ◌++◌, eqb}
use Rattle.parse.specs.Lines.{parsed}
use Rattle.session.specs.Meaning.{Position, Reported, fresh, line_reported, finished, totals_text}

-- the position before the current line, and that line so far
pub record Running : Type 0 where
  pub position : Position
  pub line : List ℕ

-- a running session, and what was printed up to it
pub record Streamed : Type 0 where
  pub running : Running
  pub text : List ℕ

-- before the first byte
abbrev pub opened : Running
opened = record { position = fresh; line = [] }

-- after a line: the next is the current one, and empty
abbrev pub reported : Reported → Streamed
reported r = record { running = record { position = r.position; line = [] }; text = r.text }

-- the current line ends
abbrev pub line_ended : Running → Streamed
line_ended r = reported (line_reported r.position (parsed r.line))

-- these bytes join the current line
abbrev pub line_extended : Running → List ℕ → Streamed
line_extended r bytes = record { running = record { position = r.position; line = r.line ++ bytes }; text = [] }

-- one byte
unfoldable pub fed : Running → ℕ → Streamed
fed r b = cond (eqb b 10) (line_ended r) (line_extended r (b ∷ []))

-- the same with this text before it
abbrev pub following : List ℕ → Streamed → Streamed
following text s = record { running = s.running; text = text ++ s.text }

-- bytes, one after the other
abbrev pub fed_all : Running → List ℕ → Streamed
fed_all r [] = record { running = r; text = [] }
fed_all r (b ∷ bs) = following (fed r b).text (fed_all (fed r b).running bs)

-- the current line has a byte
abbrev pub begun : List ℕ → Bool
begun [] = false
begun (b ∷ bs) = true

-- what the end of the input prints: what a last line that has a byte does, and the totals
unfoldable pub ended : Running → List ℕ
ended r = cond (begun r.line) (finished (line_reported r.position (parsed r.line))) (totals_text r.position.state)
