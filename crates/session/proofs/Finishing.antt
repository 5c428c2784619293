-- Where a session begins, goes on and ends.
-- Assumes nothing.
use Prim.Native.Nat.{ℕ, zero, suc, ◌+◌, ◌≤◌, ◌<◌, min}
use native.Mathlib.Omega.{arith}
use mathlib.Core.Path.{◌≡◌, refl, sym, ap, ◌∙◌, subst}
use mathlib.Core.Bool.{Bool, true, false, ◌&&◌, cond, false≢true}
use mathlib.Core.List.{List, [], ◌∷◌}
use lib.Dec.{leb, ltb}
use borrow.Author.Tests.{lt-ltb, le-ltb, le-leb, lt-leb, ltb-true, ltb-false, leb-true}
use lib.ListN.{length, take, length-take, length-map}
use Rattle.window.specs.Calls.{Outcome}
use Rattle.window.specs.Model as model
use Rattle.window.proofs.Lists.{and_left, and_right}
use Rattle.registry.specs.Records.{ListKept}
use Rattle.registry.proofs.Laying.{kept_same}
use Rattle.board.specs.Tables.{Tables, TablesKept}
use Rattle.engine.specs.States.{FreshState}
use Rattle.engine.specs.Machine.{Machine, machine, machine_long, closed_of, Represents}
use Rattle.engine.specs.Promises.{StartEnsures}
use Rattle.board.proofs.Lending.{tables-same}
use Rattle.std.specs.Prelude.{Result}
use Rattle.window.specs.declared.refusal.Refusal.{Refusal}
use Rattle.parse.specs.declared.line.Line.{Line}
use Rattle.parse.specs.Lines.{parsed}
use Rattle.parse.specs.Kept.{kept_length, kept_line}
use Rattle.parse.proofs.Keeping.{parsed-kept}
use Rattle.print.specs.Lines.{totals_line, totals_room}
use Rattle.print.specs.Put.{Put, PutSome}
use Rattle.print.proofs.Putting.{put-none, put_then, put_as, puts_none, puts_then}
use Rattle.session.specs.declared.stream.Session.{Session}
use Rattle.session.specs.Meaning.{Reported, line_reported, finished, totals_text, line_room}
use Rattle.session.specs.Stream.{Running, begun, ended}
use Rattle.session.specs.Promises.{Held, held, session_machine, refuses_all, new_line, Shown, line_limit, has_last, goes_on, LineEnsures, lent, OpenEnsures, finish_room, FinishEnsures}

-- ---- the first session

pub started : (m m' : Machine) (o : Outcome) (s : Session) (line : List ℕ) → FreshState m.state → s ≡ new_line m'.state 0 → StartEnsures m o m'
    → OpenEnsures (lent m.list m.tables) (held s m'.list line m'.tables)
unfolding machine_long
started m m' o s line fresh new p =
    subst (λ (x : Session). OpenEnsures (lent m.list m.tables) (held x m'.list line m'.tables)) (sym new)
    (record {
      shows = λ l room. record { represents = p.represents l; lines = refl; room = room; line = refl };
      zeroes = p.zeroes;
      list_kept = p.list_kept;
      short = λ s. subst (λ (x : Machine). (lent x.list x.tables ≡ lent m.list m.tables) × FreshState x.state) (sym (p.unchanged 1 (p.short s))) (refl, fresh);
      few = refl;
      none = refl;
    })

-- ---- whether it goes on

module _ (to size at room lines : ℕ) where
  pub no_byte : size ≤ to → false ≡ goes_on to size at room lines
  unfolding goes_on
  no_byte h = sym (ap (λ (b : Bool). b && (leb (at + line_room) room && ltb lines line_limit)) (le-ltb to size h))

  pub no_room : room < at + line_room → false ≡ goes_on to size at room lines
  unfolding goes_on
  no_room h = go (ltb to size) (leb (at + line_room) room) (lt-leb (at + line_room) room h)
    where
      go : (a b : Bool) → b ≡ false → false ≡ (a && (b && ltb lines line_limit))
      go true b e = sym (ap (λ (x : Bool). x && ltb lines line_limit) e)
      go false b e = refl

  pub by_number : to < size → at + line_room ≤ room → ltb lines line_limit ≡ goes_on to size at room lines
  unfolding goes_on
  by_number h k =
      sym (ap (λ (b : Bool). b && (leb (at + line_room) room && ltb lines line_limit)) (lt-ltb to size h) ∙ ap (λ (b : Bool). b && ltb lines line_limit) (le-leb (at + line_room) room k))

  pub goes_on_lem : goes_on to size at room lines ≡ true → (to < size) × ((at + line_room ≤ room) × (lines < line_limit))
  unfolding goes_on
  goes_on_lem e =
      let more : (leb (at + line_room) room && ltb lines line_limit) ≡ true = and_right (ltb to size) (leb (at + line_room) room && ltb lines line_limit) e in
      (ltb-true to size (and_left (ltb to size) (leb (at + line_room) room && ltb lines line_limit) e), (leb-true (at + line_room) room (and_left (leb (at + line_room) room) (ltb lines line_limit) more), ltb-true lines line_limit (and_right (leb (at + line_room) room) (ltb lines line_limit) more)))

  pub stopped : goes_on to size at room lines ≡ false → to < size → at + line_room ≤ room → line_limit ≤ lines
  unfolding goes_on
  stopped e h k = ltb-false lines line_limit (by_number h k ∙ e)

-- ---- the last line

-- a line has a byte exactly where one is kept
begun_kept : (kept : ℕ) (bytes line : List ℕ) → kept_length ≤ length bytes → kept_line kept bytes ≡ take kept_length line → ltb 0 kept ≡ begun line
begun_kept zero bytes [] h q = refl
begun_kept zero bytes (x ∷ xs) h q = cc
begun_kept (suc n) bytes [] h q = absurd (omega (arith, h, ap length q, length-take (min (suc n) kept_length) bytes))
begun_kept (suc n) bytes (x ∷ xs) h q = lt-ltb 0 (suc n) (omega arith)

-- whether there is one, and a number for it
module _ (s : Session) where
  pub last_by_byte : s.lines ≤ line_limit → ltb 0 s.kept ≡ has_last s
  unfolding has_last
  last_by_byte few = sym (ap (λ (x : Bool). x && ltb 0 s.kept) (le-leb s.lines line_limit few))

  pub last_unnumbered : line_limit < s.lines → leb s.lines line_limit ≡ has_last s
  unfolding has_last
  last_unnumbered many =
      let no : leb s.lines line_limit ≡ false = lt-leb s.lines line_limit many in
      no ∙ sym (ap (λ (x : Bool). x && ltb 0 s.kept) no)

  pub has_last_lem : has_last s ≡ true → (s.lines ≤ line_limit) × (ltb 0 s.kept ≡ true)
  unfolding has_last
  has_last_lem e = (leb-true s.lines line_limit (and_left (leb s.lines line_limit) (ltb 0 s.kept) e), and_right (leb s.lines line_limit) (ltb 0 s.kept) e)

-- what the last line leaves: it ends, if it has a byte
pub record LastLine (h : Held) (old : List ℕ) (m : Machine) (new : List ℕ) (next : ℕ) : Type 0 where
  pub line : (r : Running) → Shown r h → h.session.lines ≤ line_limit → begun r.line ≡ true
      → (Represents (line_reported r.position (parsed r.line)).position.state m) × Put old 0 (line_reported r.position (parsed r.line)).text new next
  pub none : (r : Running) → Shown r h → begun r.line ≡ false → (m ≡ session_machine h) × Put old 0 [] new next
  pub room : next ≤ line_room
  pub puts : PutSome old 0 new next
  pub list_kept : ListKept h.list m.list
  pub kept : TablesKept h.tables m.tables

module _ (s : Session) (list line : List ℕ) (t : Tables) (old : List ℕ) where
  -- there is none, or no number for it
  pub no_line : has_last s ≡ false → LastLine (held s list line t) old (machine s.state list t) old 0
  no_line none =
      record {
        line = λ r sh few b. absurd (false≢true (sym (last_by_byte s few ∙ none) ∙ begun_kept s.kept line r.line sh.room sh.line ∙ b));
        none = λ r sh b. (refl, put-none old 0);
        room = omega arith;
        puts = puts_none old 0;
        list_kept = kept_same list;
        kept = tables-same t;
      }

  -- there is one
  pub one_line : {asked : Result Line Refusal} {s' : Session} {m : Machine} {new : List ℕ} {next : ℕ} → has_last s ≡ true → asked ≡ parsed (kept_line s.kept line)
      → LineEnsures asked (machine s.state list t) s.lines old 0 s' m new next → LastLine (held s list line t) old m new next
  one_line {asked} {s'} {m} {new} {next} last asks p =
      record {
        line = λ r sh few e. ends r sh;
        none = λ r sh e. absurd (false≢true (sym e ∙ sym (begun_kept s.kept line r.line sh.room sh.line) ∙ (has_last_lem s last).1));
        room = omega (arith, p.room);
        puts = p.puts;
        list_kept = p.list_kept;
        kept = p.kept;
      }
    where
      ends : (r : Running) → Shown r (held s list line t)
          → (Represents (line_reported r.position (parsed r.line)).position.state m) × Put old 0 (line_reported r.position (parsed r.line)).text new next
      ends r sh =
          rw (sym (asks ∙ ap parsed sh.line ∙ parsed-kept r.line))
          (p.represents r.position.state sh.represents, p.text r.position sh.represents sh.lines)

-- ---- the totals

-- n, P, M and N of a state are the model's
totals_are : (s : model.State) (m : Machine) → Represents s m
    → totals_line m.state.count m.state.board.closed m.state.board.maxima.comparisons m.state.board.minima.comparisons ≡ totals_text s
unfolding totals_text
totals_are s m p = rw (p.state.count, p.state.board.closed ∙ length-map s.closed (closed_of s.readings), p.state.board.max_total, p.state.board.min_total)

-- what the end prints, by whether there is a last line
ended_by : (r : Running) (b : Bool) → begun r.line ≡ b → ended r ≡ cond b (finished (line_reported r.position (parsed r.line))) (totals_text r.position.state)
unfolding ended
ended_by r b e = ap (λ (x : Bool). cond x (finished (line_reported r.position (parsed r.line))) (totals_text r.position.state)) e

pub finishes : (h : Held) (m : Machine) (old mid new : List ℕ) (next filled : ℕ) → refuses_all (session_machine h) (length h.line) ≡ false → LastLine h old m mid next
    → finish_room ≤ length old → length new ≡ length old
    → Put mid next (totals_line m.state.count m.state.board.closed m.state.board.maxima.comparisons m.state.board.minima.comparisons) new filled → filled ≤ next + totals_room
    → FinishEnsures h old (lent m.list m.tables) new filled
finishes h m old mid new next filled passed last room size text end =
    record {
      says = λ r sh few long. says r sh few (begun r.line) refl;
      short = λ l. absurd (omega arith);
      refuses = λ e. absurd (false≢true (sym passed ∙ e));
      puts = puts_then last.puts (record { bytes = _; put = text });
      fits = omega (arith, last.room, end, size);
      list_kept = last.list_kept;
      kept = last.kept;
      untouched = λ r sh e. ap (λ (x : Machine). lent x.list x.tables) (last.none r sh e).0;
    }
  where
    says : (r : Running) → Shown r h → (begun r.line ≡ true → h.session.lines ≤ line_limit) → (b : Bool) → begun r.line ≡ b → Put old 0 (ended r) new filled
    says r sh few true e =
        let after : Reported = line_reported r.position (parsed r.line) in
        let line : (Represents after.position.state m) × Put old 0 after.text mid next = last.line r sh (few e) e in
        put_as (sym (ended_by r true e)) (put_then line.1 (put_as (totals_are _ m line.0) text))
    says r sh few false e =
        let none : (m ≡ session_machine h) × Put old 0 [] mid next = last.none r sh e in
        put_as (sym (ended_by r false e)) (put_then none.1 (put_as (totals_are r.position.state m (subst (Represents r.position.state) (sym none.0) sh.represents)) text))
