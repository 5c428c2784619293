-- What each function of the program hands to the next.
-- Assumes nothing.
use Rattle.std.proofs.Common.{ℕ, zero, suc, ◌+◌, ◌-◌, ◌<◌, ◌≤◌, ◌≡◌, refl, sym, ap, subst, ◌∙◌, arith, List, [], ◌++◌, append_assoc, append-nil, length, take, drop, length-append, take-append-drop, Bool, Option, Some, None, IfSome, OnOk, OnErr, IfErr, Result, Ok, Err, MatchResult, true}
use lib.Seq.{slice_empty}
use Rattle.std.specs.Prelude.{⊤}
use Rattle.std.proofs.lemmas.List.{take_rest}
use Rattle.std.specs.Io.{ReadsAtMost}
use Rattle.std.specs.Io.KnownBytes.{Keeps, Appends, Consumes, IsAtEnd, ReadConsumes}
use Rattle.std.proofs.KnownBytes.{Appends-nil, Appends-trans, Consumes-nil, Consumes-trans, Consumes-kept}
use Rattle.parse.specs.Kept.{kept_length}
use Rattle.session.specs.Meaning.{session_output, line_room}
use Rattle.session.specs.Promises.{Held, line_limit, Lent, lent_long, lent_of, OpenEnsures, FeedEnsures, finish_room, FinishEnsures}
use Rattle.session.specs.Whole.{Fed, none, more, Reached, Carries}
use Rattle.session.proofs.Whole.{whole_session}
use Rattle.session.proofs.Composing.{fed_then, carries_nothing, limit_many, limit_then, limit_stopped, reached-first, ran-all}
use Rattle.std.specs.declared.io.Error as io
use Rattle.pchelodar.specs.declared.Error.{Error}
use Rattle.pchelodar.specs.declared.Error.TheVariants as error
use Rattle.pchelodar.specs.Promises.{after_feed, after_reads, Wrote, FedOn, StepFed, ChunkFed, read_of, count_of, brought, Failed, FoundEnd, BroughtFed, AfterRead, Heard, Intake, none, next, Known, known, ReadsFed, SomeFed, AllRead, Concludes, Ended, Concluded, WholeRun, WriteTold, ReadHeard}

-- ---- what a write said

-- where the write failed
pub step_failed : (bytes : List ℕ) (h h' : Held) (printed : List ℕ) (w w' : Option (List ℕ)) (e : Error) (p : Result ℕ Error) → p ≡ Err e → Wrote printed w w' (Err e) → StepFed bytes h h' w w' p
unfolding StepFed Wrote
step_failed bytes h h' printed w w' e p q f = subst (StepFed bytes h h' w w') (sym q) (go e f)
  where
    go : (x : Error) → Wrote printed w w' (Err x) → StepFed bytes h h' w w' (Err x)
    go (error.ReadFailed x) g = g
    go (error.WriteFailed x) g = tt
    go error.TooLong g = absurd g

-- where all was written
pub step_fed : (bytes : List ℕ) {old new : List ℕ} {filled : ℕ} {h h' : Held} (w w' : Option (List ℕ)) (to : ℕ) (p : Result ℕ Error) → p ≡ after_feed to → line_room ≤ length old → 0 < length bytes
    → FeedEnsures bytes 0 h old h' to new filled → (x : ⊤) → Wrote (take filled new) w w' (Ok x) → StepFed bytes h h' w w' p
unfolding StepFed Wrote
step_fed bytes {old} {new} {filled} {h} {h'} w w' to p e room some f x written = subst (StepFed bytes h h' w w') (sym e) (go to f)
  where
    go : (n : ℕ) → FeedEnsures bytes 0 h old h' n new filled → StepFed bytes h h' w w' (after_feed n)
    go zero g = limit_stopped room some (omega arith) (subst (λ (l : List ℕ). Carries l h h) (sym (slice_empty 0 bytes)) (carries_nothing h)) g
    go (suc n) g =
        record {
          text = take filled new;
          feeds =
              subst (λ (l : List ℕ). Fed h (take (suc n) bytes) l h') (append-nil (take filled new))
              (subst (λ (l : List ℕ). Fed h l (take filled new ++ []) h') (append-nil (take (suc n) bytes)) (more g none));
          written = written;
        }

-- ---- bytes that were fed, with what they printed

pub fed_nothing : (h : Held) (w : Option (List ℕ)) → FedOn [] h h w w
fed_nothing h w = record { text = []; feeds = none; written = Appends-nil w }

pub fed_on : {xs ys : List ℕ} {h h' h'' : Held} {w w' w'' : Option (List ℕ)} → FedOn xs h h' w w' → FedOn ys h' h'' w' w'' → FedOn (xs ++ ys) h h'' w w''
fed_on {w = w} {w' = w'} {w'' = w''} p q =
    record { text = p.text ++ q.text; feeds = fed_then p.feeds q.feeds; written = Appends-trans w w' w'' p.text q.text p.written q.written }

-- what a session that was opened, and so fed, came to
reached_on : {t : Lent} {input bytes : List ℕ} {h h' : Held} {w w' : Option (List ℕ)} → Reached t input h → FedOn bytes h h' w w' → Reached t (input ++ bytes) h'
reached_on p f =
    record {
      text = p.text ++ f.text;
      begun = record {
        lent = p.begun.lent;
        long = p.begun.long;
        first = p.begun.first;
        opens = p.begun.opens;
        room = p.begun.room;
        feeds = fed_then p.begun.feeds f.feeds;
      };
      on = p.on;
    }

carries_fed : {bytes : List ℕ} {h h' : Held} {w w' : Option (List ℕ)} → FedOn bytes h h' w w' → Carries bytes h h'
carries_fed f = record { on = λ t input p. reached_on p f }

-- ---- one chunk

-- the bytes that were fed, and those taken next
pub chunk_more : (chunk done rest : List ℕ) (n : ℕ) → chunk ≡ done ++ rest → chunk ≡ (done ++ take n rest) ++ take (length rest - n) (drop n rest)
chunk_more chunk done rest n e =
    e ∙ ap (λ (l : List ℕ). done ++ l) (sym (take-append-drop n rest)) ∙ sym (append_assoc done (take n rest) (drop n rest)) ∙ ap (λ (l : List ℕ). (done ++ take n rest) ++ l) (sym (take_rest rest n))

-- the bytes before the rest were fed, and then some of it
pub step_more : {done : List ℕ} (rest : List ℕ) {h₀ h : Held} (h' : Held) {w₀ w : Option (List ℕ)} (w' : Option (List ℕ)) (n : ℕ) → FedOn done h₀ h w₀ w → StepFed rest h h' w w' (Ok n) → FedOn (done ++ take n rest) h₀ h' w₀ w'
unfolding StepFed
step_more rest h' w' n fed s = fed_on fed s

-- all bytes of a chunk
pub chunk_all : (chunk done : List ℕ) {rest : List ℕ} {h h' : Held} {w w' : Option (List ℕ)} → chunk ≡ done ++ rest → rest ≡ [] → FedOn done h h' w w' → ChunkFed chunk h h' w w' (Ok tt)
unfolding ChunkFed
chunk_all chunk done {rest} {h} {h'} {w} {w'} split empty f =
    subst (λ (l : List ℕ). FedOn l h h' w w') (sym (split ∙ ap (λ (l : List ℕ). done ++ l) empty ∙ append-nil done)) f

-- one that was fed to a place and no further
pub chunk_stopped : (chunk : List ℕ) {done : List ℕ} (rest : List ℕ) {h₀ h : Held} (h' : Held) {w₀ w : Option (List ℕ)} (w' : Option (List ℕ)) (e : Error) (p : Result ⊤ Error) → p ≡ Err e → FedOn done h₀ h w₀ w → StepFed rest h h' w w' (Err e) → ChunkFed chunk h₀ h' w₀ w' p
unfolding StepFed ChunkFed
chunk_stopped chunk {done} rest {h₀} {h} h' {w₀} {w} w' e p q fed s = subst (ChunkFed chunk h₀ h' w₀ w') (sym q) (go e s)
  where
    go : (x : Error) → StepFed rest h h' w w' (Err x) → ChunkFed chunk h₀ h' w₀ w' (Err x)
    go (error.ReadFailed x) f = f
    go (error.WriteFailed x) f = tt
    go error.TooLong f = limit_then (carries_fed fed) f

-- ---- one read

-- what is gone on with is what it returned
pub read_on : (got : Result ℕ io.Error) (count : Result ℕ Error) (n : ℕ) → count ≡ Ok n → MatchResult got (λ x. count ≡ Ok x) (λ e. ⊥) → got ≡ Ok n
read_on (Ok x) count n is same = cc
read_on (Err x) count n is same = absurd same

-- the bytes that it brought were fed
pub after_fed : (got : Result ℕ io.Error) (chunk : List ℕ) (h h' : Held) (w w' : Option (List ℕ)) (n : ℕ) → got ≡ Ok n → 0 < n → (x : ⊤) → ChunkFed (take n chunk) h h' w w' (Ok x)
    → AfterRead (read_of got chunk) h h' w w' (Ok n)
unfolding ChunkFed BroughtFed
after_fed got chunk h h' w w' n e some x fed =
    subst (λ (g : Result ℕ io.Error). AfterRead (read_of g chunk) h h' w w' (Ok n)) (sym e)
    (record { failed = λ x f. absurd cc; ended = λ f. absurd (not_none cc); some = λ s. (refl, fed) })
  where
    not_none : n ≡ 0 → ⊥
    not_none z = omega (arith, z, some)

-- or some of them, or none
pub after_stopped : (got : Result ℕ io.Error) (chunk : List ℕ) (h h' : Held) (w w' : Option (List ℕ)) (n : ℕ) → got ≡ Ok n → 0 < n → (e : Error) (p : Result ℕ Error) → p ≡ Err e
    → ChunkFed (take n chunk) h h' w w' (Err e) → AfterRead (read_of got chunk) h h' w w' p
unfolding ChunkFed BroughtFed
after_stopped got chunk h h' w w' n same some e p q fed =
    subst (λ (g : Result ℕ io.Error). AfterRead (read_of g chunk) h h' w w' p) (sym same)
    (subst (AfterRead (read_of (Ok n) chunk) h h' w w') (sym q)
    (record { failed = λ x. not_failed x; ended = not_ended; some = λ s. go e fed }))
  where
    not_none : n ≡ 0 → ⊥
    not_none z = omega (arith, z, some)

    not_failed : {T : Type 0} (x : io.Error) → Failed (record { got = Ok n; buffer = chunk }) x → T
    not_failed x f = absurd cc

    not_ended : {T : Type 0} → FoundEnd (record { got = Ok n; buffer = chunk }) → T
    not_ended f = absurd (not_none cc)

    go : (x : Error) → ChunkFed (take n chunk) h h' w w' (Err x) → BroughtFed (record { got = Ok n; buffer = chunk }) h h' w w' (Err x)
    go (error.ReadFailed x) f = f
    go (error.WriteFailed x) f = tt
    go error.TooLong f = f

pub heard_stopped : (got : Result ℕ io.Error) (chunk : List ℕ) (h h' : Held) (w w' : Option (List ℕ)) (n : ℕ) → got ≡ Ok n → 0 < n → (e : Error) (p : Result ℕ Error) → p ≡ Err e
    → ChunkFed (take n chunk) h h' w w' (Err e) → Heard p (read_of got chunk)
unfolding ChunkFed
heard_stopped got chunk h h' w w' n same some e p q fed =
    subst (λ (g : Result ℕ io.Error). Heard p (read_of g chunk)) (sym same) (subst (λ (x : Result ℕ Error). Heard x (record { got = Ok n; buffer = chunk })) (sym q) (go e fed))
  where
    go : (x : Error) → ChunkFed (take n chunk) h h' w w' (Err x) → Heard (Err x) (record { got = Ok n; buffer = chunk })
    go (error.ReadFailed x) f = absurd f
    go (error.WriteFailed x) f = some
    go error.TooLong f = some

-- ---- all reads

-- each read brought a byte
pub reads-many : {n : ℕ} {bytes : List ℕ} → Intake n bytes → n ≤ length bytes
reads-many none = omega arith
reads-many (next {n} {bytes} reads r some) = omega (arith, reads-many reads, length-append bytes (brought r), some)

-- no read
pub reads_none : (h : Held) (k : Known) → ReadsFed 0 h h k k
reads_none h k = record { bytes = []; reads = none; fed = fed_nothing h k.holds; given = Consumes-nil k.ahead }

-- the same bytes were fed, and nothing changed since
fed_still : {bytes : List ℕ} {h₀ h : Held} (h' : Held) {w₀ w : Option (List ℕ)} (w' : Option (List ℕ)) → FedOn bytes h₀ h w₀ w → h' ≡ h → Keeps w w' → FedOn bytes h₀ h' w₀ w'
fed_still {bytes} {h₀} {h} h' {w₀} {w} w' fed e kept =
    subst (λ (x : Held). FedOn bytes h₀ x w₀ w') (sym e)
    (record { text = fed.text; feeds = fed.feeds; written = appends_kept w₀ w w' fed.text fed.written kept })
  where
    appends_kept : (a b c : Option (List ℕ)) (bs : List ℕ) → Appends a b bs → Keeps b c → Appends a c bs
    appends_kept None b c bs p q = tt
    appends_kept (Some x) None c bs p q = absurd p
    appends_kept (Some x) (Some y) None bs p q = absurd q
    appends_kept (Some x) (Some y) (Some z) bs p q = q ∙ p

-- one read more
pub read_more : {m n : ℕ} {h₀ h : Held} (h' : Held) {k₀ k : Known} (a' w' : Option (List ℕ)) (got : Result ℕ io.Error) (buffer : List ℕ) (count : ℕ) → m ≡ n + 1 → 0 < count
    → ReadsFed n h₀ h k₀ k → AfterRead (read_of got buffer) h h' k.holds w' (Ok count) → Heard (Ok count) (read_of got buffer) → ReadsAtMost got buffer → ReadConsumes k.ahead a' got buffer
    → ReadsFed m h₀ h' k₀ (known a' w')
unfolding BroughtFed
read_more {m} {n} {h₀} {h} h' {k₀} {k} a' w' got buffer count l some fed a heard most given =
    subst (λ (j : ℕ). ReadsFed j h₀ h' k₀ (known a' w')) (sym l) (go got (came count heard some) a most given)
  where
    came : (c : ℕ) → Heard (Ok c) (read_of got buffer) → 0 < c → 0 < count_of got
    came zero x s = omega (arith, s)
    came (suc c) x s = x

    go : (g : Result ℕ io.Error) → 0 < count_of g → AfterRead (read_of g buffer) h h' k.holds w' (Ok count) → ReadsAtMost g buffer → ReadConsumes k.ahead a' g buffer
        → ReadsFed (n + 1) h₀ h' k₀ (known a' w')
    go (Ok c) s b most taken =
        record {
          bytes = fed.bytes ++ take c buffer;
          reads = next fed.reads (record { got = Ok c; buffer = buffer }) (omega (arith, s, most.1));
          fed = fed_on fed.fed (b.some s).1;
          given = Consumes-trans k₀.ahead k.ahead a' fed.bytes (take c buffer) fed.given taken.0;
        }
    go (Err e) s b most taken = absurd (omega (arith, s))

-- the input ended
pub read_ended : {n : ℕ} (places : ℕ) {h₀ h : Held} (h' : Held) {k₀ k : Known} (a' w' : Option (List ℕ)) (got : Result ℕ io.Error) (buffer : List ℕ) (count : ℕ) → count ≡ 0 → length buffer ≡ places
    → ReadsFed n h₀ h k₀ k → AfterRead (read_of got buffer) h h' k.holds w' (Ok count) → Heard (Ok count) (read_of got buffer) → ReadConsumes k.ahead a' got buffer
    → AllRead places h₀ h' k₀ (known a' w') (Ok tt)
unfolding AllRead
read_ended {n} places {h₀} {h} h' {k₀} {k} a' w' got buffer count z same fed a heard given =
    go got (subst (λ (c : ℕ). Heard (Ok c) (read_of got buffer)) z heard) a given
  where
    go : (g : Result ℕ io.Error) → FoundEnd (read_of g buffer) → AfterRead (read_of g buffer) h h' k.holds w' (Ok count) → ReadConsumes k.ahead a' g buffer
        → SomeFed h₀ h' k₀ (known a' w') × (0 < places → IsAtEnd a')
    go (Ok c) found b taken =
        let none_came : c ≡ 0 = cc in
        let still = b.ended found in
        let nothing : Consumes k.ahead a' [] = subst (λ (j : ℕ). Consumes k.ahead a' (take j buffer)) none_came taken.0 in (
          record {
            number = n;
            fed = record {
              bytes = fed.bytes;
              reads = fed.reads;
              fed = fed_still h' w' fed.fed still.1 still.2;
              given = subst (Consumes k₀.ahead a') (append-nil fed.bytes) (Consumes-trans k₀.ahead k.ahead a' fed.bytes [] fed.given nothing);
            };
          },
          λ room. taken.1 none_came (omega (arith, room, same)),
        )
    go (Err e) found b taken = absurd cc

-- it ended before
pub read_stopped : {n : ℕ} (places : ℕ) {h₀ h : Held} (h' : Held) {k₀ k : Known} (a' w' : Option (List ℕ)) (got : Result ℕ io.Error) (buffer : List ℕ) (e : Error) (p : Result ⊤ Error) → p ≡ Err e
    → ReadsFed n h₀ h k₀ k → AfterRead (read_of got buffer) h h' k.holds w' (Err e) → Heard (Err e) (read_of got buffer) → ReadConsumes k.ahead a' got buffer
    → AllRead places h₀ h' k₀ (known a' w') p
unfolding AllRead BroughtFed
read_stopped {n} places {h₀} {h} h' {k₀} {k} a' w' got buffer e p q fed a heard given = subst (AllRead places h₀ h' k₀ (known a' w')) (sym q) (go e a heard)
  where
    failing : (x : io.Error) (g : Result ℕ io.Error) → Failed (read_of g buffer) x → AfterRead (read_of g buffer) h h' k.holds w' (Err (error.ReadFailed x)) → ReadConsumes k.ahead a' g buffer → SomeFed h₀ h' k₀ (known a' w')
    failing x (Ok c) f b kept = absurd cc
    failing x (Err y) f b kept =
        let still = b.failed x f in
        record {
          number = n;
          fed = record {
            bytes = fed.bytes;
            reads = fed.reads;
            fed = fed_still h' w' fed.fed still.1 still.2;
            given = Consumes-kept k₀.ahead k.ahead a' fed.bytes fed.given kept;
          };
        }

    go : (x : Error) → AfterRead (read_of got buffer) h h' k.holds w' (Err x) → Heard (Err x) (read_of got buffer) → AllRead places h₀ h' k₀ (known a' w') (Err x)
    go (error.ReadFailed x) b f = failing x got f b given
    go (error.WriteFailed x) b f = tt
    go error.TooLong b f = limit_then (carries_fed fed.fed) (b.some f)

-- no read is left
pub reads_spent : {n : ℕ} (places : ℕ) {h₀ h : Held} (k₀ k : Known) → line_limit ≤ n → ReadsFed n h₀ h k₀ k → AllRead places h₀ h k₀ k (Err error.TooLong)
unfolding AllRead
reads_spent places k₀ k l fed = limit_many (omega (arith, l, reads-many fed.reads)) (carries_fed fed.fed)

-- ---- the whole run

-- finished, where the write did not fail
pub concludes : {h h' h'' : Held} {old new new' : List ℕ} {filled : ℕ} (w w' : Option (List ℕ)) (read p : Result ⊤ Error) → h'' ≡ h' → new' ≡ new → FinishEnsures h old (lent_of h') new filled → Wrote (take filled new) w w' p
    → OnOk read (Concludes h old (lent_of h'') new' w w' p)
unfolding Concludes Wrote
concludes {h} {h'} {h''} {old} {new} {new'} {filled} w w' (Err e) p same still f written = tt
concludes {h} {h'} {h''} {old} {new} {new'} {filled} w w' (Ok x) p same still f written =
    subst (λ (x : Held). Concludes h old (lent_of x) new' w w' p) (sym same) (subst (λ (l : List ℕ). Concludes h old (lent_of h') l w w' p) (sym still) (go p written))
  where
    go : (q : Result ⊤ Error) → Wrote (take filled new) w w' q → Concludes h old (lent_of h') new w w' q
    go (Ok x) a = record { filled = filled; finish = f; written = a }
    go (Err (error.ReadFailed x)) a = a
    go (Err (error.WriteFailed x)) a = tt
    go (Err error.TooLong) a = a

-- by what the reads came to
pub heard_by : (h : Held) (old : List ℕ) (left : Lent) (new : List ℕ) (w w' : Option (List ℕ)) (read p : Result ⊤ Error) (got : Option ℕ) → IfErr read (λ e. p ≡ Err e) → OnOk read (Concludes h old left new w w' p)
    → ReadHeard read got → ReadHeard p got
unfolding Concludes
heard_by h old left new w w' (Ok x) (Ok y) got q c f = f
heard_by h old left new w w' (Ok x) (Err (error.ReadFailed e)) got q c f = absurd c
heard_by h old left new w w' (Ok x) (Err (error.WriteFailed e)) got q c f = tt
heard_by h old left new w w' (Ok x) (Err error.TooLong) got q c f = tt
heard_by h old left new w w' (Err e) p got q c f = subst (λ (r : Result ⊤ Error). ReadHeard r got) (sym q) f

pub ended_by : {t : Lent} {h : Held} (h' : Held) (places : ℕ) (old : List ℕ) (left : Lent) (new : List ℕ) (k k' k'' : Known) (got : Option ℕ) (said : Bool) (read p : Result ⊤ Error) → OpenEnsures t h → AllRead places h h' k k' read
    → ReadHeard read got → IfErr read (λ e. p ≡ Err e) → OnOk read (Concludes h' old left new k'.holds k''.holds p) → OnErr read (Keeps k'.holds k''.holds) → WriteTold p said
    → Ended places t left new k k'' got said p
ended_by {t} {h} h' places old left new k k' k'' got said read p opens reads heard q c kept told =
    record { first = h; opens = opens; read = read; heard = heard; last = h'; midway = k'; reads = reads; old = old; totals = p; concludes = c; unwritten = kept; ends = go read q; told = told }
  where
    go : (r : Result ⊤ Error) → IfErr r (λ e. p ≡ Err e) → p ≡ after_reads r p
    go (Ok x) e = refl
    go (Err x) e = e

-- the whole session, or one that was broken off
pub ran_by : {t : Lent} {h : Held} (h' h'' : Held) (k k' : Known) (places : ℕ) (old new : List ℕ) (w : Option (List ℕ)) (read p : Result ⊤ Error) → lent_long t ≡ true → kept_length ≤ length h.line → OpenEnsures t h
    → finish_room ≤ length old → AllRead places h h' k k' read → IfErr read (λ e. p ≡ Err e) → OnErr read (h'' ≡ h') → OnOk read (Concludes h' old (lent_of h'') new k'.holds w p) → Concluded t (lent_of h'') new p
unfolding AllRead Concludes Concluded
ran_by {t} {h} h' h'' k k' places old new w read p long room opens finish reads q still c = go read p reads q still c
  where
    at_first : Reached t [] h
    at_first = reached-first long room opens

    go : (r : Result ⊤ Error) (p : Result ⊤ Error) → AllRead places h h' k k' r → IfErr r (λ e. p ≡ Err e) → OnErr r (h'' ≡ h') → OnOk r (Concludes h' old (lent_of h'') new k'.holds w p) → Concluded t (lent_of h'') new p
    go (Ok x) (Ok y) a e s f =
        record { number = a.0.number; bytes = a.0.fed.bytes; reads = a.0.fed.reads; ran = ran-all finish (reached_on at_first a.0.fed.fed) f.finish }
    go (Ok x) (Err (error.ReadFailed y)) a e s f = absurd f
    go (Ok x) (Err (error.WriteFailed y)) a e s f = tt
    go (Ok x) (Err error.TooLong) a e s f = absurd f
    go (Err (error.ReadFailed x)) p a e s f =
        subst (Concluded t (lent_of h'') new) (sym e)
        (record {
          last = h';
          broken = record { number = a.number; bytes = a.fed.bytes; reads = a.fed.reads; reached = reached_on at_first a.fed.fed };
          leaves = ap lent_of s;
        })
    go (Err (error.WriteFailed x)) p a e s f = subst (Concluded t (lent_of h'') new) (sym e) tt
    go (Err error.TooLong) p a e s f =
        subst (Concluded t (lent_of h'') new) (sym e) (record { last = h'; broken = a.on t [] at_first; leaves = ap lent_of s })

-- a reader that is at its end gave all that it had
all_given : (P : List ℕ → Type 0) (a b : Option (List ℕ)) (bytes : List ℕ) → Consumes a b bytes → IsAtEnd b → P bytes → IfSome a P
all_given P None b bytes given end p = tt
all_given P (Some x) None bytes given end p = absurd given
all_given P (Some x) (Some y) bytes given end p = subst P (sym (given ∙ ap (λ (l : List ℕ). bytes ++ l) end ∙ append-nil bytes)) p

-- and then the session of just that was written
pub written_by : {t : Lent} {h : Held} (h' : Held) (k k' : Known) (places : ℕ) (old new : List ℕ) (left : Lent) (w : Option (List ℕ)) (read p : Result ⊤ Error) → lent_long t ≡ true
    → kept_length ≤ length h.line → OpenEnsures t h → finish_room ≤ length old → AllRead places h h' k k' read → IfErr read (λ e. p ≡ Err e) → OnOk read (Concludes h' old left new k'.holds w p) → 0 < places
    → OnOk p (IfSome k.ahead (λ xs. Appends k.holds w (session_output xs)))
unfolding AllRead Concludes
written_by {t} {h} h' k k' places old new left w read p long room opens finish reads q concluded some = go read p reads q concluded
  where
    go : (r p : Result ⊤ Error) → AllRead places h h' k k' r → IfErr r (λ e. p ≡ Err e) → OnOk r (Concludes h' old left new k'.holds w p) → OnOk p (IfSome k.ahead (λ xs. Appends k.holds w (session_output xs)))
    go (Ok x) (Ok y) a e f =
        let fed = a.0.fed.fed in
        let whole : fed.text ++ take f.filled new ≡ session_output a.0.fed.bytes =
        whole_session a.0.fed.bytes (fed.text ++ take f.filled new)
        (record {
          text = fed.text;
          last = h';
          begun = record { lent = t; long = long; first = h; opens = opens; room = room; feeds = fed.feeds };
          old = old;
          room = finish;
          left = left;
          new = new;
          filled = f.filled;
          finish = f.finish;
          all = refl;
        }) in
        all_given (λ xs. Appends k.holds w (session_output xs)) k.ahead k'.ahead a.0.fed.bytes a.0.fed.given (a.1 some)
        (subst (Appends k.holds w) whole (Appends-trans k.holds k'.holds w fed.text (take f.filled new) fed.written f.written))
    go (Ok x) (Err y) a e f = tt
    go (Err x) p a e f = subst (λ (r : Result ⊤ Error). OnOk r (IfSome k.ahead (λ xs. Appends k.holds w (session_output xs)))) (sym e) tt

-- the claim about a run to its end
pub whole_run : WholeRun
whole_run lent left new r = whole_session r.bytes r.ran.output r.ran.ran
