-- What the functions of a session promise.
-- Assumes nothing.
use Rattle.std.specs.Prelude.{ℕ, ◌+◌, ◌*◌, ◌≤◌, ◌<◌, ◌≡◌, Bool, true, false, not, ◌&&◌, ◌||◌, List, leb, ltb, ℤ, length, take, Result, Ok, Err}
use Rattle.std.proofs.Math.Seq.{slice}
use Rattle.window.specs.declared.refusal.Refusal.{Refusal}
use Rattle.window.specs.Refusals.{answer_places}
use Rattle.window.specs.Calls.{refused}
use Rattle.window.specs.Model as model
use Rattle.engine.specs.declared.state.State.{State}
use Rattle.registry.specs.Records.{list_places, ListKept}
use Rattle.board.specs.Tables.{Tables, tables_long, zeroed_tables, KeptBeyond, TablesKept}
use Rattle.engine.specs.States.{FreshState}
use Rattle.engine.specs.Machine.{Machine, machine, machine_long, Represents}
use Rattle.engine.specs.Outcomes.{reading_outcome}
use Rattle.engine.specs.Promises.{list_damaged}
use Rattle.parse.specs.declared.line.Line.{Line}
use Rattle.parse.specs.Kept.{kept_length, kept_line}
use Rattle.print.specs.Lines.{totals_room}
use Rattle.print.specs.Put.{Put, PutSome}
use Rattle.session.specs.declared.stream.Session.{Session}
use Rattle.session.specs.Meaning.{line_step, Position, line_reported, line_room}
use Rattle.session.specs.Stream.{Running, Streamed, opened, fed_all, ended, begun}

-- ---- one call

-- the answers that a call gave stand in the answer table
abbrev pub Within : Result ℕ Refusal → List ℤ → Type 0
Within (Ok k) places = answer_places * k ≤ length places
Within (Err r) places = Unit {0}

-- the call that a line asks of the engine, on m, came to o with these answer places, and left m'
pub record CallEnsures (asked : Result Line Refusal) (m : Machine) (o : Result ℕ Refusal) (places : List ℤ) (m' : Machine) : Type 0 where
  pub within : Within o places
  pub agrees : (s : model.State) → Represents s m → reading_outcome o places ≡ (line_step s asked).outcome
  pub represents : (s : model.State) → Represents s m → Represents (line_step s asked).state m'
  -- a refused line changes nothing
  pub unchanged : (k : ℕ) → reading_outcome o places ≡ refused k → m' ≡ m
  -- whatever m holds: no place beyond the query list's, and none beyond the first 4,096 of a table, is written
  pub list_kept : ListKept m.list m'.list
  pub kept : TablesKept m.tables m'.tables

-- ---- where nothing is done

-- every call but start is refused, since the query list or a table is too short or the list is damaged as document 01
-- lists it; or there is no room for the bytes of a line
unfoldable pub refuses_all : (m : Machine) (room : ℕ) → Bool
refuses_all m room = ltb room kept_length || (not (machine_long m) || list_damaged m)

-- whether it is so: always there, and never where m represents a state of the model and there is room for a line
pub record RefusesEnsures (m : Machine) (room : ℕ) (refuses : Bool) : Type 0 where
  pub always : refuses_all m room ≡ true → refuses ≡ true
  pub never : (s : model.State) → Represents s m → kept_length ≤ room → refuses ≡ false

-- ---- what is held between two bytes

-- the session, and what is lent: the query list, the bytes of the current line and the tables
pub record Held : Type 0 where
  pub session : Session
  pub list : List ℕ
  pub line : List ℕ
  pub tables : Tables

-- the four, in this order
abbrev pub held : Session → List ℕ → List ℕ → Tables → Held
held s l line t = record { session = s; list = l; line = line; tables = t }

-- the engine's part of it
abbrev pub session_machine : Held → Machine
session_machine h = machine h.session.state h.list h.tables

-- whatever was held: no place beyond the query list's, no byte beyond the first 65 of the line and no place beyond the
-- first 4,096 of a table is written
pub record HeldKept (h h' : Held) : Type 0 where
  pub list : ListKept h.list h'.list
  pub line : KeptBeyond kept_length h.line h'.line
  pub tables : TablesKept h.tables h'.tables

-- a session before the first byte of a line, with so many lines before it
abbrev pub new_line : State → ℕ → Session
new_line st lines = record { state = st; lines = lines; kept = 0 }

-- a session with so many bytes kept of the current line
abbrev pub keeping : Session → ℕ → Session
keeping s kept = record { state = s.state; lines = s.lines; kept = kept }

-- what is held shows the running session r: the engine represents its model, and as many bytes of its line are kept as
-- tell what it asks
pub record Shown (r : Running) (h : Held) : Type 0 where
  pub represents : Represents r.position.state (session_machine h)
  pub lines : h.session.lines ≡ r.position.lines
  pub room : kept_length ≤ length h.line
  pub line : kept_line h.session.kept h.line ≡ take kept_length r.line

-- what is held shows the running session of s, whose text was put into the output behind the first `at` places
pub record Says (s : Streamed) (h : Held) (old : List ℕ) (at : ℕ) (new : List ℕ) (next : ℕ) : Type 0 where
  pub shown : Shown s.running h
  pub text : Put old at s.text new next

-- ---- one line

-- how many lines can end: their numbers have 64 bits and do not wrap
abbrev pub line_limit : ℕ
line_limit = 18446744073709551614

-- there is a byte to take, room for what the line that it may end prints, and a number for that line
unfoldable pub goes_on : (to size at room lines : ℕ) → Bool
goes_on to size at room lines = ltb to size && (leb (at + line_room) room && ltb lines line_limit)

-- the current line has a byte, and there is a number for it
unfoldable pub has_last : Session → Bool
has_last s = leb s.lines line_limit && ltb 0 s.kept

-- a line ends that asks this, on m and with so many lines before it: the session s is before the next line, and m' is
-- what is left
pub record LineEnsures (asked : Result Line Refusal) (m : Machine) (lines : ℕ) (old : List ℕ) (at : ℕ) (s : Session) (m' : Machine) (new : List ℕ) (next : ℕ) : Type 0 where
  pub represents : (t : model.State) → Represents t m → Represents (line_step t asked).state m'
  pub text : (p : Position) → Represents p.state m → lines ≡ p.lines → Put old at (line_reported p asked).text new next
  -- a refused line changes nothing: state, query list and tables are equal
  pub unchanged : (t : model.State) → Represents t m → (k : ℕ) → (line_step t asked).outcome ≡ refused k → m' ≡ m
  pub after : s ≡ new_line m'.state (lines + 1)
  pub room : next ≤ at + line_room
  -- whatever m holds: no other place of the output is written, none beyond the query list's, and none beyond the first
  -- 4,096 of a table
  pub puts : PutSome old at new next
  pub list_kept : ListKept m.list m'.list
  pub kept : TablesKept m.tables m'.tables

-- ---- bytes

-- these bytes of the input, one after the other
pub record Streams (bytes : List ℕ) (h : Held) (old : List ℕ) (at : ℕ) (h' : Held) (new : List ℕ) (next : ℕ) : Type 0 where
  pub says : (r : Running) → Shown r h → Says (fed_all r bytes) h' old at new next
  -- whatever was held: no other place of the output is written
  pub puts : PutSome old at new next
  pub kept : HeldKept h h'

-- the rest of a line, or of a chunk if that ends before: the bytes from a place up to another, which is one further at
-- least
pub record RestEnsures (chunk : List ℕ) (from : ℕ) (h : Held) (old : List ℕ) (at : ℕ) (h' : Held) (to : ℕ) (new : List ℕ) (next : ℕ) : Type 0 where
  pub streams : Streams (slice from to chunk) h old at h' new next
  pub onward : from < to
  pub inside : to ≤ length chunk
  pub room : next ≤ at + line_room
  pub few : h'.session.lines ≤ line_limit

-- ---- the three functions that a program calls

-- the query list and the tables, as they are lent
pub record Lent : Type 0 where
  pub list : List ℕ
  pub tables : Tables

-- the two, in this order
abbrev pub lent : List ℕ → Tables → Lent
lent l t = record { list = l; tables = t }

-- those of what is held
abbrev pub lent_of : Held → Lent
lent_of h = lent h.list h.tables

-- check 1: query list and tables have their lengths
abbrev pub lent_long : Lent → Bool
lent_long l = leb list_places (length l.list) && tables_long l.tables

-- open, on this query list and these tables and with any bytes for the line: a fresh engine and no line, where they
-- pass check 1
pub record OpenEnsures (l : Lent) (h : Held) : Type 0 where
  pub shows : lent_long l ≡ true → kept_length ≤ length h.line → Shown opened h
  pub zeroes : lent_long l ≡ true → h.tables ≡ zeroed_tables l.tables
  pub list_kept : ListKept l.list h.list
  -- what does not pass it stays as it is; the session is that of an engine that took no call
  pub short : lent_long l ≡ false → (lent_of h ≡ l) × FreshState h.session.state
  pub few : h.session.lines ≡ 0
  pub none : h.session.kept ≡ 0

-- nothing is printed: the output stays as it is, and so do the query list and the tables
abbrev pub NothingDone : (l l' : Lent) (old new : List ℕ) (filled : ℕ) → Type 0
NothingDone l l' old new filled = (l' ≡ l) × ((filled ≡ 0) × (new ≡ old))

-- bytes of a chunk, from a place on: those up to `to` are taken, and what they print stands in the first places of the
-- output, as many as `filled` says
pub record TakenEnsures (chunk : List ℕ) (from : ℕ) (h : Held) (old : List ℕ) (h' : Held) (to : ℕ) (new : List ℕ) (filled : ℕ) : Type 0 where
  pub streams : Streams (slice from to chunk) h old 0 h' new filled
  pub onward : from ≤ to
  pub inside : from ≤ length chunk → to ≤ length chunk
  -- where there is no byte, the place stays
  pub beyond : length chunk ≤ from → to ≡ from
  pub few : h.session.lines ≤ line_limit → h'.session.lines ≤ line_limit
  pub fits : filled ≤ length new
  -- where no byte is taken, nothing changes
  pub still : to ≡ from → (h' ≡ h) × ((filled ≡ 0) × (new ≡ old))

-- feed
pub record FeedEnsures (chunk : List ℕ) (from : ℕ) (h : Held) (old : List ℕ) (h' : Held) (to : ℕ) (new : List ℕ) (filled : ℕ) : Type 0 where
  pub taken : TakenEnsures chunk from h old h' to new filled
  -- a session takes all bytes that it has room and line numbers for
  pub stops : (r : Running) → Shown r h → to < length chunk → filled + line_room ≤ length old → line_limit ≤ h'.session.lines
  -- where a slice is too short, or the query list is damaged as document 01 lists it, no byte is taken
  pub refuses : refuses_all (session_machine h) (length h.line) ≡ true → to ≡ from

-- what the end of the input prints at most
abbrev pub finish_room : ℕ
finish_room = line_room + totals_room

-- finish: what the end of the input prints stands in the first places of the output
pub record FinishEnsures (h : Held) (old : List ℕ) (l : Lent) (new : List ℕ) (filled : ℕ) : Type 0 where
  pub says : (r : Running) → Shown r h → (begun r.line ≡ true → h.session.lines ≤ line_limit) → finish_room ≤ length old → Put old 0 (ended r) new filled
  -- where the output or another slice is too short, or the query list is damaged as document 01 lists it, nothing is
  -- printed and nothing changes
  pub short : length old < finish_room → NothingDone (lent_of h) l old new filled
  pub refuses : refuses_all (session_machine h) (length h.line) ≡ true → NothingDone (lent_of h) l old new filled
  -- whatever was held: no other place of the output is written, none beyond the query list's, and none beyond the first
  -- 4,096 of a table
  pub puts : PutSome old 0 new filled
  pub fits : filled ≤ length new
  pub list_kept : ListKept h.list l.list
  pub kept : TablesKept h.tables l.tables
  -- without a last line neither query list nor table is written
  pub untouched : (r : Running) → Shown r h → begun r.line ≡ false → l ≡ lent_of h
