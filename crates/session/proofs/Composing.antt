-- Calls of feed, put together: what a program that calls the three functions in turn has to show.
-- Assumes nothing.
use Prim.Native.Nat.{ℕ, ◌≤◌, ◌<◌}
use native.Mathlib.Omega.{arith}
use mathlib.Core.Path.{◌≡◌, refl, sym, ap, subst, ◌∙◌}
use mathlib.Core.Bool.{Bool, true, false}
use mathlib.Core.List.{List, [], ◌++◌, append_assoc, append-nil}
use lib.Dec.{ltb}
use borrow.Author.Tests.{ltb-true, ltb-false}
use lib.ListN.{length, take, length-append}
use lib.Seq.{slice, slice_empty}
use Rattle.parse.specs.Kept.{kept_length}
use Rattle.session.specs.Meaning.{line_room}
use Rattle.session.specs.Stream.{Running, opened, fed_all}
use Rattle.session.specs.Promises.{Held, Shown, Says, line_limit, Lent, lent_long, OpenEnsures, FeedEnsures, finish_room, FinishEnsures}
use Rattle.session.specs.Whole.{Fed, none, more, Reached, ReachedLimit, Carries, CarriesLimit, RanAll}
use Rattle.session.proofs.Streaming.{lines-few}
use Rattle.session.proofs.Whole.{reached-shown}

-- the same calls, of bytes and text that are equal to these
fed_as : {h h' : Held} {xs ys s t : List ℕ} → xs ≡ ys → s ≡ t → Fed h xs s h' → Fed h ys t h'
fed_as {h} {h'} {xs} {ys} {s} {t} e d f = subst (λ (l : List ℕ). Fed h l t h') e (subst (λ (l : List ℕ). Fed h xs l h') d f)

-- calls, and then others
pub fed_then : {h h' h'' : Held} {xs ys s t : List ℕ} → Fed h xs s h' → Fed h' ys t h'' → Fed h (xs ++ ys) (s ++ t) h''
fed_then none g = g
fed_then {ys = ys} {t = t} (more {chunk = chunk} {new = new} {input = input} {text = text} {from = from} {to = to} {filled = filled} f rest) g =
    fed_as (sym (append_assoc (slice from to chunk) input ys)) (sym (append_assoc (take filled new) text t)) (more f (fed_then rest g))

-- where there is a byte, room for a line and a number for it, a call takes a byte
pub progress : {chunk old new : List ℕ} {from to filled : ℕ} {h h' : Held} (r : Running) → FeedEnsures chunk from h old h' to new filled
    → Shown r h → line_room ≤ length old → from < length chunk → h.session.lines < line_limit → from < to
progress {chunk} {old} {new} {from} {to} {filled} {h} {h'} r f sh room byte number = go (ltb from to) refl
  where
    go : (b : Bool) → ltb from to ≡ b → from < to
    go true e = ltb-true from to e
    go false e =
        let here : to ≡ from = omega (arith, f.taken.onward, ltb-false from to e) in
        let nothing : slice from to chunk ≡ [] = ap (λ (n : ℕ). slice from n chunk) here ∙ slice_empty from chunk in
        let says : Says (fed_all r []) h' old 0 new filled = subst (λ (l : List ℕ). Says (fed_all r l) h' old 0 new filled) nothing (f.taken.streams.says r sh) in
        let still : line_limit ≤ h'.session.lines = f.stops r sh (omega arith) (omega (arith, says.text.ends)) in
        omega (arith, still, says.shown.lines, sh.lines)

-- ---- a program's turns

-- opened
pub reached-first : {t : Lent} {h : Held} → lent_long t ≡ true → kept_length ≤ length h.line → OpenEnsures t h → Reached t [] h
reached-first {t} {h} long room o =
    record { text = []; begun = record { lent = t; long = long; first = h; opens = o; room = room; feeds = none }; on = refl }

-- input that is equal to this
reached_as : {t : Lent} {xs ys : List ℕ} {h : Held} → xs ≡ ys → Reached t xs h → Reached t ys h
reached_as {t} {xs} {ys} {h} e p = subst (λ (l : List ℕ). Reached t l h) e p

-- one call more
reached_then : {t : Lent} {chunk old new input : List ℕ} {from to filled : ℕ} {h h' : Held} → Reached t input h → FeedEnsures chunk from h old h' to new filled
    → Reached t (input ++ slice from to chunk) h'
reached_then {t} {chunk} {old} {new} {input} {from} {to} {filled} {h} {h'} p f =
    record {
      text = p.text ++ take filled new;
      begun = record {
        lent = p.begun.lent;
        long = p.begun.long;
        first = p.begun.first;
        opens = p.begun.opens;
        room = p.begun.room;
        feeds = fed_then p.begun.feeds (fed_as (append-nil (slice from to chunk)) (append-nil (take filled new)) (more f none));
      };
      on = p.on;
    }

-- no byte
pub carries_nothing : (h : Held) → Carries [] h h
carries_nothing h = record { on = λ t input p. reached_as (sym (append-nil input)) p }

-- ---- so many that they come to the limit

pub limit_many : {bytes : List ℕ} {h h' : Held} → line_limit ≤ length bytes → Carries bytes h h' → CarriesLimit h h'
limit_many {bytes} l p =
    record { on = λ t input r. record { input = input ++ bytes; reached = p.on t input r; many = omega (arith, length-append input bytes) } }

pub limit_then : {bytes : List ℕ} {h h' h'' : Held} → Carries bytes h h' → CarriesLimit h' h'' → CarriesLimit h h''
limit_then {bytes} p q = record { on = λ t input r. q.on t (input ++ bytes) (p.on t input r) }

-- where a call has room and takes no byte, there were so many
pub limit_stopped : {chunk old new : List ℕ} {from to filled : ℕ} {h₀ h h' : Held} → line_room ≤ length old → from < length chunk → to ≤ from
    → Carries (slice 0 from chunk) h₀ h → FeedEnsures chunk from h old h' to new filled → CarriesLimit h₀ h'
limit_stopped {chunk} {old} {new} {from} {to} {filled} {h₀} {h} {h'} room byte still p f = record { on = on }
  where
    on : (t : Lent) (input : List ℕ) → Reached t input h₀ → ReachedLimit t h'
    on t input q =
        let before : Reached t (input ++ slice 0 from chunk) h = p.on t input q in
        let shown : Shown (fed_all opened (input ++ slice 0 from chunk)).running h = reached-shown before in
        record {
          input = (input ++ slice 0 from chunk) ++ slice from to chunk;
          reached = reached_then before f;
          many = omega (arith, at_limit (ltb h.session.lines line_limit) refl shown, shown.lines, lines-few (input ++ slice 0 from chunk) opened, length-append (input ++ slice 0 from chunk) (slice from to chunk));
        }
      where
        at_limit : (b : Bool) → ltb h.session.lines line_limit ≡ b → {r : Running} → Shown r h → line_limit ≤ h.session.lines
        at_limit true e {r} sh = absurd (omega (arith, progress r f sh room byte (ltb-true h.session.lines line_limit e)))
        at_limit false e sh = ltb-false h.session.lines line_limit e

-- finished
pub ran-all : {t left : Lent} {h : Held} {input old new : List ℕ} {filled : ℕ} → finish_room ≤ length old → Reached t input h → FinishEnsures h old left new filled
    → RanAll input t left new
ran-all {t} {left} {h} {input} {old} {new} {filled} room p f =
    record {
      output = p.text ++ take filled new;
      ran = record { text = p.text; last = h; begun = p.begun; old = old; room = room; left = left; new = new; filled = filled; finish = f; all = refl };
      on = p.on;
      leaves = refl;
      ends = refl;
    }
