-- A whole session prints its meaning, however its input is cut.
-- Assumes nothing.
use Prim.Native.Nat.{ℕ, ◌≤◌}
use native.Mathlib.Omega.{arith}
use mathlib.Core.Path.{◌≡◌, refl, sym, ap, ◌∙◌}
use mathlib.Core.List.{List, ◌++◌}
use lib.ListN.{take}
use lib.Seq.{slice}
use Rattle.print.specs.Put.{Put}
use Rattle.session.specs.Stream.{Running, Streamed, opened, following, fed_all, ended}
use Rattle.session.specs.Promises.{Held, Shown, Says, line_limit, Lent}
use Rattle.session.specs.Whole.{Fed, none, more, Begun, Reached, WholeSession}
use Rattle.session.proofs.Streaming.{whole_input, fed-append}

-- what calls of feed come to, from what shows the running session r
record After (r : Running) (input printed : List ℕ) (h : Held) : Type 0 where
  shown : Shown (fed_all r input).running h
  text : printed ≡ (fed_all r input).text
  few : h.session.lines ≤ line_limit

-- what was put at the front of the output
front : {old new bytes : List ℕ} {next : ℕ} → Put old 0 bytes new next → take next new ≡ bytes
front a = a.text

fed-all : {h h' : Held} {input text : List ℕ} (r : Running) → Fed h input text h' → Shown r h → h.session.lines ≤ line_limit → After r input text h'
fed-all r none sh few = record { shown = sh; text = refl; few = few }
fed-all r (more {h} {h'} {h''} {chunk} {old} {new} {input} {text} {from} {to} {filled} f rest) sh few =
    let bytes : List ℕ = slice from to chunk in
    let says : Says (fed_all r bytes) h' old 0 new filled = f.taken.streams.says r sh in
    let then : After (fed_all r bytes).running input text h'' = fed-all (fed_all r bytes).running rest says.shown (f.taken.few few) in
    let same : fed_all r (bytes ++ input) ≡ following (fed_all r bytes).text (fed_all (fed_all r bytes).running input) = fed-append r bytes input in
    record {
      shown = rw same then.shown;
      text = ap (λ (t : List ℕ). t ++ text) (front says.text) ∙ ap (λ (t : List ℕ). (fed_all r bytes).text ++ t) then.text ∙ sym (ap (λ (s : Streamed). s.text) same);
      few = then.few;
    }

-- from the opening on
begun_all : {input text : List ℕ} {h : Held} → Begun input text h → After opened input text h
begun_all b = fed-all opened b.feeds (b.opens.shows b.long b.room) (omega (arith, b.opens.few))

pub reached-shown : {lent : Lent} {input : List ℕ} {h : Held} → Reached lent input h → Shown (fed_all opened input).running h
reached-shown p = (begun_all p.begun).shown

-- the claim
pub whole_session : WholeSession
whole_session input output ran =
    let fed : After opened input ran.text ran.last = begun_all ran.begun in
    ran.all
    ∙ ap (λ (t : List ℕ). ran.text ++ t) (front (ran.finish.says (fed_all opened input).running fed.shown (λ e. fed.few) ran.room))
    ∙ ap (λ (t : List ℕ). t ++ ended (fed_all opened input).running) fed.text
    ∙ whole_input input
