-- The bytes of a chunk, taken a line at a time, are the session's bytes one after the other.
-- Assumes nothing.
use Prim.Native.Nat.{ℕ, suc, ◌+◌, ◌≤◌, ◌<◌}
use native.Mathlib.Omega.{arith}
use mathlib.Core.Path.{◌≡◌, refl, sym, ap, ◌∙◌}
use mathlib.Core.Bool.{Bool, false, cond}
use mathlib.Core.List.{List, [], ◌∷◌, ◌++◌, append_assoc, append-nil}
use lib.Dec.{eqb}
use borrow.Author.Tests.{eqb-true}
use Rattle.std.specs.Prelude.{None, Some, Result, position}
use Rattle.std.specs.List.{slice_range}
use Rattle.std.proofs.lemmas.List.{take_more, take_rest, drop-take, length-take, get_or-take}
use Rattle.std.proofs.lemmas.Slice.{between_is}
use Rattle.std.proofs.lemmas.List.Quantifiers.{position-Some}
use Rattle.window.specs.declared.refusal.Refusal.{Refusal}
use lib.ListN.{length, get_or, take, drop, length-drop}
use lib.Seq.{slice, slice_empty}
use Rattle.board.specs.Tables.{Tables}
use Rattle.engine.specs.Machine.{machine}
use Rattle.board.proofs.Lending.{tables-same, tables_then}
use Rattle.registry.proofs.Laying.{kept_same, kept_then}
use Rattle.parse.specs.declared.line.Line.{Line}
use Rattle.parse.specs.Lines.{parsed}
use Rattle.parse.specs.Kept.{kept_length, kept_line, SameBeyond}
use Rattle.parse.proofs.Slices.{slice_then}
use Rattle.parse.proofs.Scanning.{none_found}
use Rattle.parse.proofs.Keeping.{parsed-kept, take-joined}
use Rattle.print.proofs.Putting.{put-none, put_then, puts_none, puts_then}
use Rattle.board.specs.declared.tables.LentTables.{LentTables}
use Rattle.board.specs.Lending.{SameSlices}
use Rattle.session.specs.declared.stream.Session.{Session}
use Rattle.session.specs.Stream.{Running, Streamed, line_ended, line_extended, fed, following, fed_all}
use Rattle.session.specs.Promises.{Held, held, HeldKept, keeping, Shown, Says, line_limit, LineEnsures, Streams, RestEnsures}
use Rattle.session.proofs.Streaming.{fed-append}

-- ---- bytes without an end of line

extended_none : (r : Running) → fed_all r [] ≡ line_extended r []
extended_none r = ap (λ (l : List ℕ). record { running = record { position = r.position; line = l }; text = [] }) (sym (append-nil r.line))

-- bytes of which none is byte 10 join the current line
fed_plain : (l : List ℕ) (r : Running) → ((k : ℕ) → k < length l → eqb (get_or l k 0) 10 ≡ false) → fed_all r l ≡ line_extended r l
unfolding fed
fed_plain [] r plain = extended_none r
fed_plain (x ∷ xs) r plain =
    ap (λ (b : Bool). following (cond b (line_ended r) (line_extended r (x ∷ []))).text (fed_all (cond b (line_ended r) (line_extended r (x ∷ []))).running xs)) (plain 0 (omega arith))
    ∙ fed_plain xs (record { position = r.position; line = r.line ++ (x ∷ []) }) (λ k h. plain (suc k) (omega arith))
    ∙ ap (λ (l : List ℕ). record { running = record { position = r.position; line = l }; text = [] }) (append_assoc r.line (x ∷ []) xs)

-- and that byte ends it
fed_end : (q : Running) → fed_all q (10 ∷ []) ≡ line_ended q
unfolding fed
fed_end q = ap (λ (l : List ℕ). record { running = (line_ended q).running; text = l }) (append-nil (line_ended q).text)

-- bytes in which byte 10 stands first at n: those before it join the current line, and it ends it
fed_line : (l : List ℕ) (n : ℕ) (r : Running) → position (λ x. eqb x 10) l ≡ Some n → fed_all r (take (n + 1) l) ≡ line_ended (line_extended r (take n l)).running
fed_line l n r e =
    let at = position-Some (λ x. eqb x 10) l n 0 e in
    let plain : (k : ℕ) → k < length (take n l) → eqb (get_or (take n l) k 0) 10 ≡ false = λ k h. let before : k < n = omega (arith, length-take n l) in rw (get_or-take n l k 0 before) (at.2 k before) in
    rw (take_more l n 0 at.0, eqb-true (get_or l n 0) 10 at.1)
    (fed-append r (take n l) (10 ∷ []) ∙ ap (λ (x : Streamed). following x.text (fed_all x.running (10 ∷ []))) (fed_plain (take n l) r plain) ∙ fed_end (line_extended r (take n l)).running)

-- ---- the rest of a line

module _ (s : Session) (list line : List ℕ) (t : Tables) (line' : List ℕ) (same : SameBeyond line line') where
  -- there is as much room for a line
  same-room : kept_length ≤ length line → kept_length ≤ length line'
  same-room h = omega (arith, h, same.0)

  -- these bytes join it
  pub line_kept : (bytes : List ℕ) (kept : ℕ) (old : List ℕ) (at : ℕ) → ((r : Running) → fed_all r bytes ≡ line_extended r bytes) → kept_line kept line' ≡ take kept_length (kept_line s.kept line ++ bytes)
      → Streams bytes (held s list line t) old at (held (keeping s kept) list line' t) old at
  line_kept bytes kept old at joins keeps =
      record {
        says = λ r sh. rw (joins r) (record { shown = longer r sh; text = put-none old at });
        puts = puts_none old at;
        kept = record { list = kept_same list; line = record { as_long = same.0; beyond = same.1 }; tables = tables-same t };
      }
    where
      -- the current line is longer by these bytes
      longer : (r : Running) → Shown r (held s list line t) → Shown (line_extended r bytes).running (held (keeping s kept) list line' t)
      longer r sh =
          record {
            represents = sh.represents;
            lines = sh.lines;
            room = same-room sh.room;
            line = keeps ∙ ap (λ (l : List ℕ). take kept_length (l ++ bytes)) sh.line ∙ take-joined kept_length r.line bytes;
          }

  -- they join it, and the byte behind them ends it
  pub line_taken : (bytes all : List ℕ) {asked : Result Line Refusal} {s' : Session} {list' : List ℕ} {t' : Tables} {old new : List ℕ} {at next : ℕ}
      → ((r : Running) → fed_all r all ≡ line_ended (line_extended r bytes).running) → asked ≡ parsed (take kept_length (kept_line s.kept line ++ bytes))
      → LineEnsures asked (machine s.state list t) s.lines old at s' (machine s'.state list' t') new next
      → Streams all (held s list line t) old at (held s' list' line' t') new next
  line_taken bytes all {asked} {s'} {list'} {t'} {old} {new} {at} {next} ends asks p =
      record { says = says; puts = p.puts; kept = record { list = p.list_kept; line = record { as_long = same.0; beyond = same.1 }; tables = p.kept } }
    where
      -- what is kept of the line and these bytes ask what the line does
      is_asked : (r : Running) → Shown r (held s list line t) → asked ≡ parsed (r.line ++ bytes)
      is_asked r sh =
          asks ∙ ap (λ (x : List ℕ). parsed (take kept_length (x ++ bytes))) sh.line ∙ ap parsed (take-joined kept_length r.line bytes) ∙ parsed-kept (r.line ++ bytes)

      says : (r : Running) → Shown r (held s list line t) → Says (fed_all r all) (held s' list' line' t') old at new next
      says r sh =
          rw (ends r, sym (is_asked r sh))
          (record {
            shown = record {
              represents = p.represents r.position.state sh.represents;
              lines = ap (λ (x : Session). x.lines) p.after ∙ ap (λ (k : ℕ). k + 1) sh.lines;
              room = same-room sh.room;
              line = ap (λ (x : Session). kept_line x.kept line') p.after;
            };
            text = p.text r.position sh.represents sh.lines;
          })

-- what is left of the chunk, from a place on
module _ (chunk : List ℕ) (from : ℕ) (s : Session) (list line : List ℕ) (t : Tables) (line' : List ℕ) (same : SameBeyond line line')
    (byte : from < length chunk) (few : s.lines < line_limit) where
  abbrev left : List ℕ
  left = slice_range chunk from (length chunk)

  -- the chunk ends before the line does
  pub rest_kept : (kept : ℕ) (old : List ℕ) (at : ℕ) → None ≡ position (λ x. eqb x 10) left
      → kept_line kept line' ≡ take kept_length (kept_line s.kept line ++ left)
      → RestEnsures chunk from (held s list line t) old at (held (keeping s kept) list line' t) (length chunk) old at
  rest_kept kept old at none keeps =
      let all : left ≡ slice from (length chunk) chunk = between_is chunk from (length chunk) in
      let joins : (q : Running) → fed_all q left ≡ line_extended q left = λ q. fed_plain left q (λ k h. none_found (λ x. eqb x 10) left (sym none) k 0 h) in
      let streams : Streams left (held s list line t) old at (held (keeping s kept) list line' t) old at = line_kept s list line t line' same left kept old at joins keeps in
      record {
        streams = rw (sym all) streams;
        onward = byte;
        inside = omega arith;
        room = omega arith;
        few = omega (arith, few);
      }

  -- the line ends in it
  pub rest_taken : (n : ℕ) {asked : Result Line Refusal} {next : Session} {list' : List ℕ} {t' : Tables} {old new : List ℕ} {at at' : ℕ} → Some n ≡ position (λ x. eqb x 10) left
      → asked ≡ parsed (take kept_length (kept_line s.kept line ++ take n left))
      → LineEnsures asked (machine s.state list t) s.lines old at next (machine next.state list' t') new at'
      → RestEnsures chunk from (held s list line t) old at (held next list' line' t') (from + n + 1) new at'
  rest_taken n {asked} {next} {list'} {t'} {old} {new} {at} {at'} found asks p =
      let inside : n < length left = (position-Some (λ x. eqb x 10) left n 0 (sym found)).0 in
      let rest : left ≡ drop from chunk = take_rest chunk from in
      let all : take (n + 1) left ≡ slice from (from + n + 1) chunk = ap (take (n + 1)) rest ∙ sym (drop-take from (n + 1) chunk) ∙ ap (λ (k : ℕ). slice from k chunk) (omega arith) in
      let streams = line_taken s list line t line' same (take n left) (take (n + 1) left) (λ q. fed_line left n q (sym found)) asks p in
      record {
        streams = rw (sym all) streams;
        onward = omega arith;
        inside = omega (arith, inside, ap length rest, length-drop from chunk);
        room = p.room;
        few = omega (arith, few, ap (λ (x : Session). x.lines) p.after);
      }

-- ---- one after the other

pub held_same : (h : Held) → HeldKept h h
held_same h = record { list = kept_same h.list; line = record { as_long = refl; beyond = refl }; tables = tables-same h.tables }

pub held_then : {h i j : Held} → HeldKept h i → HeldKept i j → HeldKept h j
held_then p q =
    record {
      list = kept_then p.list q.list;
      line = record { as_long = q.line.as_long ∙ p.line.as_long; beyond = q.line.beyond ∙ p.line.beyond };
      tables = tables_then p.tables q.tables;
    }

-- the tables are the slices that they were
pub slices_same : (t : LentTables) → SameSlices t t
slices_same t = record { starts = refl; sums = refl; max_starts = refl; max_values = refl; min_starts = refl; min_values = refl }

pub slices_then : {t u v : LentTables} → SameSlices t u → SameSlices u v → SameSlices t v
slices_then p q =
    record {
      starts = q.starts ∙ p.starts;
      sums = q.sums ∙ p.sums;
      max_starts = q.max_starts ∙ p.max_starts;
      max_values = q.max_values ∙ p.max_values;
      min_starts = q.min_starts ∙ p.min_starts;
      min_values = q.min_values ∙ p.min_values;
    }

pub streams-none : (chunk : List ℕ) (from : ℕ) (h : Held) (old : List ℕ) (at : ℕ) → Streams (slice from from chunk) h old at h old at
streams-none chunk from h old at =
    rw (slice_empty from chunk) (record { says = λ r sh. record { shown = sh; text = put-none old at }; puts = puts_none old at; kept = held_same h })

streams_then : {xs ys : List ℕ} {h i j : Held} {old mid new : List ℕ} {at next last : ℕ}
    → Streams xs h old at i mid next → Streams ys i mid next j new last → Streams (xs ++ ys) h old at j new last
streams_then {xs} {ys} {h} {i} {j} {old} {mid} {new} {at} {next} {last} p q =
    record {
      says = says;
      puts = puts_then p.puts q.puts;
      kept = held_then p.kept q.kept;
    }
  where
    says : (r : Running) → Shown r h → Says (fed_all r (xs ++ ys)) j old at new last
    says r sh =
        let first : Says (fed_all r xs) i old at mid next = p.says r sh in
        let second : Says (fed_all (fed_all r xs).running ys) j mid next new last = q.says (fed_all r xs).running first.shown in
        rw (fed-append r xs ys) (record { shown = second.shown; text = put_then first.text second.text })

-- the bytes of a chunk that were taken, and those taken next
pub streams-next : (chunk : List ℕ) (from i to : ℕ) {h j k : Held} {old mid new : List ℕ} {at next last : ℕ} → from ≤ i → i ≤ to → to ≤ length chunk
    → Streams (slice from i chunk) h old at j mid next → Streams (slice i to chunk) j mid next k new last → Streams (slice from to chunk) h old at k new last
streams-next chunk from i to {h} {j} {k} {old} {mid} {new} {at} {next} {last} a b c p q = rw (sym (slice_then from i to chunk a b c)) (streams_then p q)

-- what holds at each turn over a chunk
pub record Inside (chunk : List ℕ) (from : ℕ) (h₀ : Held) (old : List ℕ) (h : Held) (to : ℕ) (out : List ℕ) (at : ℕ) : Type 0 where
  pub streams : Streams (slice from to chunk) h₀ old 0 h out at
  pub onward : from ≤ to
  pub inside : from ≤ length chunk → to ≤ length chunk
  pub beyond : length chunk ≤ from → to ≡ from
  pub room : at ≤ length out
  pub as_long : length out ≡ length old
  pub few : h₀.session.lines ≤ line_limit → h.session.lines ≤ line_limit
  pub line : kept_length ≤ length h.line
  pub still : to ≡ from → (h ≡ h₀) × ((at ≡ 0) × (out ≡ old))
