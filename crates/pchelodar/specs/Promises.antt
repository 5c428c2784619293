-- What the program's functions promise: that they put the session's three functions together as its claim assumes
-- (`Whole` of `session`), and what they decide on what `read` and `write_all` returned.
-- Assumes nothing.
use Rattle.std.specs.Prelude.{ℕ, zero, suc, ◌+◌, ◌<◌, ◌≡◌, Bool, true, false, List, [], ◌++◌, length, take, ⊤, Option, Some, None, Result, Ok, Err, IsOk, OnOk, OnErr}
use Rattle.std.specs.Io.KnownBytes.{Keeps, Appends, Consumes, IsAtEnd}
use Rattle.session.specs.Meaning.{session_output}
use Rattle.session.specs.Promises.{Held, Lent, lent_of, OpenEnsures, FinishEnsures}
use Rattle.session.specs.Whole.{Fed, Reached, ReachedLimit, CarriesLimit, RanAll}
use Rattle.std.specs.declared.io.Error as io
use Rattle.pchelodar.specs.declared.Error.{Error}
use Rattle.pchelodar.specs.declared.Error.TheVariants as error

-- ---- what a write said

-- after_write: it failed where it said so, with what it said
abbrev pub after_write : Result ⊤ io.Error → Result ⊤ Error
after_write (Ok x) = Ok x
after_write (Err e) = Err (error.WriteFailed e)

-- a write failed exactly where it said so, and with just what it said: what follows it, and what it said
abbrev pub Told : Result ⊤ Error → Result ⊤ io.Error → Type 0
Told (Ok x) said = IsOk said
Told (Err (error.ReadFailed e)) said = IsOk said
Told (Err (error.WriteFailed e)) said = said ≡ Err e
Told (Err error.TooLong) said = IsOk said

-- a write failed exactly where it said so: what a function returns, and whether the last write said that it succeeded,
-- true where there was none
abbrev pub WriteTold : {A : Type 0} → Result A Error → Bool → Type 0
WriteTold (Ok x) said = said ≡ true
WriteTold (Err (error.ReadFailed e)) said = said ≡ true
WriteTold (Err (error.WriteFailed e)) said = said ≡ false
WriteTold (Err error.TooLong) said = said ≡ true

-- write: these bytes were written, or the write failed
unfoldable pub Wrote : List ℕ → Option (List ℕ) → Option (List ℕ) → Result ⊤ Error → Type 0
Wrote bytes w w' (Ok x) = Appends w w' bytes
Wrote bytes w w' (Err (error.ReadFailed e)) = ⊥
Wrote bytes w w' (Err (error.WriteFailed e)) = Unit {0}
Wrote bytes w w' (Err error.TooLong) = ⊥

-- after_feed, of how many bytes were taken: a session that took none has come to its limit
abbrev pub after_feed : ℕ → Result ℕ Error
after_feed zero = Err error.TooLong
after_feed (suc n) = Ok (suc n)

-- from one to the other these bytes were fed, and what they printed was written: of a writer the bytes that it held and
-- those that it holds, where they are known
pub record FedOn (bytes : List ℕ) (h h' : Held) (w w' : Option (List ℕ)) : Type 0 where
  pub text : List ℕ
  pub feeds : Fed h bytes text h'
  pub written : Appends w w' text

-- feed: so many bytes from the front were fed, or the limit was reached, or a write failed
unfoldable pub StepFed : List ℕ → Held → Held → Option (List ℕ) → Option (List ℕ) → Result ℕ Error → Type 0
StepFed bytes h h' w w' (Ok n) = FedOn (take n bytes) h h' w w'
StepFed bytes h h' w w' (Err (error.ReadFailed e)) = ⊥
StepFed bytes h h' w w' (Err (error.WriteFailed e)) = Unit {0}
StepFed bytes h h' w w' (Err error.TooLong) = CarriesLimit h h'

-- feed_chunk: all bytes of the chunk were fed, in order, or the limit was reached, or a write failed; it does not read
unfoldable pub ChunkFed : List ℕ → Held → Held → Option (List ℕ) → Option (List ℕ) → Result ⊤ Error → Type 0
ChunkFed chunk h h' w w' (Ok x) = FedOn chunk h h' w w'
ChunkFed chunk h h' w w' (Err (error.ReadFailed e)) = ⊥
ChunkFed chunk h h' w w' (Err (error.WriteFailed e)) = Unit {0}
ChunkFed chunk h h' w w' (Err error.TooLong) = CarriesLimit h h'

-- ---- what a read returned

-- one read: what it returned, how many bytes or what it failed with, and the buffer as it left it
pub record Read : Type 0 where
  pub got : Result ℕ io.Error
  pub buffer : List ℕ

-- the two, in this order
abbrev pub read_of : Result ℕ io.Error → List ℕ → Read
read_of got buffer = record { got = got; buffer = buffer }

-- how many bytes it brought
abbrev pub count_of : Result ℕ io.Error → ℕ
count_of (Ok n) = n
count_of (Err e) = 0

-- the bytes that it brought: the front of the buffer
abbrev pub brought : Read → List ℕ
brought r = take (count_of r.got) r.buffer

-- the read failed: it said so, with this
abbrev pub Failed : Read → io.Error → Type 0
Failed r e = r.got ≡ Err e

-- it found the end of the input: it did not fail, and brought no byte
abbrev pub FoundEnd : Read → Type 0
FoundEnd r = r.got ≡ Ok 0

-- what is fed of a read that brought bytes, and how many are handed on
unfoldable pub BroughtFed : Read → Held → Held → Option (List ℕ) → Option (List ℕ) → Result ℕ Error → Type 0
BroughtFed r h h' w w' (Ok n) = (n ≡ count_of r.got) × FedOn (brought r) h h' w w'
BroughtFed r h h' w w' (Err (error.ReadFailed e)) = ⊥
BroughtFed r h h' w w' (Err (error.WriteFailed e)) = Unit {0}
BroughtFed r h h' w w' (Err error.TooLong) = CarriesLimit h h'

-- after_read, by what the read came to: where it failed or found the end of the input, the run ends so and nothing
-- changes or is written; else just the bytes that it brought are fed
pub record AfterRead (r : Read) (h h' : Held) (w w' : Option (List ℕ)) (p : Result ℕ Error) : Type 0 where
  pub failed : (e : io.Error) → Failed r e → (p ≡ Err (error.ReadFailed e)) × (h' ≡ h) × Keeps w w'
  pub ended : FoundEnd r → (p ≡ Ok 0) × (h' ≡ h) × Keeps w w'
  pub some : 0 < count_of r.got → BroughtFed r h h' w w' p

-- what follows a read says what it came to: it failed, or found the input ended
abbrev pub Heard : Result ℕ Error → Read → Type 0
Heard (Ok zero) r = FoundEnd r
Heard (Ok (suc n)) r = 0 < count_of r.got
Heard (Err (error.ReadFailed e)) r = Failed r e
Heard (Err (error.WriteFailed e)) r = 0 < count_of r.got
Heard (Err error.TooLong) r = 0 < count_of r.got

-- the reads ended as the last of them says: how they ended, and how many bytes the last one said that it brought, none
-- where it failed
abbrev pub ReadHeard : Result ⊤ Error → Option ℕ → Type 0
ReadHeard (Ok x) got = got ≡ Some 0
ReadHeard (Err (error.ReadFailed e)) got = got ≡ None
ReadHeard (Err (error.WriteFailed e)) got = Unit {0}
ReadHeard (Err error.TooLong) got = Unit {0}

-- ---- all reads

-- so many reads, one after the other, each of which brought a byte or more: all bytes that they brought, in order.
-- Where it is known what a reader will give they are its bytes (`ReadsFed`); of one of which it is not known, no
-- contract can say which reads they were: that is read off `read_all`
pub data Intake : ℕ → List ℕ → Type 0 where
  none : Intake 0 []
  next : {n : ℕ} {bytes : List ℕ} → Intake n bytes → (r : Read) → 0 < length (brought r) → Intake (n + 1) (bytes ++ brought r)

-- what is known of the streams: what the reader will give from here on, and what the writer holds
pub record Known : Type 0 where
  pub ahead : Option (List ℕ)
  pub holds : Option (List ℕ)

-- the two, in this order
abbrev pub known : Option (List ℕ) → Option (List ℕ) → Known
known a w = record { ahead = a; holds = w }

-- from one to the other all bytes that so many reads brought were fed, which the reader gave, and what they printed was
-- written
pub record ReadsFed (n : ℕ) (h h' : Held) (k k' : Known) : Type 0 where
  pub bytes : List ℕ
  pub reads : Intake n bytes
  pub fed : FedOn bytes h h' k.holds k'.holds
  pub given : Consumes k.ahead k'.ahead bytes

-- the same of some reads
pub record SomeFed (h h' : Held) (k k' : Known) : Type 0 where
  pub number : ℕ
  pub fed : ReadsFed number h h' k k'

-- read_all, with so many places to read into: all that the reads brought was fed, up to the end of the input, or to
-- where it could not be read. It stops before that only where a write failed, or at the limit
unfoldable pub AllRead : ℕ → Held → Held → Known → Known → Result ⊤ Error → Type 0
AllRead places h h' k k' (Ok x) = SomeFed h h' k k' × (0 < places → IsAtEnd k'.ahead)
AllRead places h h' k k' (Err (error.ReadFailed e)) = SomeFed h h' k k'
AllRead places h h' k k' (Err (error.WriteFailed e)) = Unit {0}
AllRead places h h' k k' (Err error.TooLong) = CarriesLimit h h'

-- a session that was opened on this query list and these tables and fed all that so many reads brought
pub record ReachedReads (lent : Lent) (h : Held) : Type 0 where
  pub number : ℕ
  pub bytes : List ℕ
  pub reads : Intake number bytes
  pub reached : Reached lent bytes h

-- ---- the whole run

-- the session was finished, and what stands at the front of the output was written
pub record Finished (h : Held) (old : List ℕ) (left : Lent) (new : List ℕ) (w w' : Option (List ℕ)) : Type 0 where
  pub filled : ℕ
  pub finish : FinishEnsures h old left new filled
  pub written : Appends w w' (take filled new)

-- conclude: the session was finished, or a write failed
unfoldable pub Concludes : Held → List ℕ → Lent → List ℕ → Option (List ℕ) → Option (List ℕ) → Result ⊤ Error → Type 0
Concludes h old left new w w' (Ok x) = Finished h old left new w w'
Concludes h old left new w w' (Err (error.ReadFailed e)) = ⊥
Concludes h old left new w w' (Err (error.WriteFailed e)) = Unit {0}
Concludes h old left new w w' (Err error.TooLong) = ⊥

-- the run's end, by what the reads came to and what came of the totals: any other end of the reads than the input's is
-- its own
abbrev pub after_reads : Result ⊤ Error → Result ⊤ Error → Result ⊤ Error
after_reads (Ok x) totals = totals
after_reads (Err e) totals = Err e

-- run, with so many places to read into: opened on these, all read, and concluded where the input ended, or nothing
-- written after that; the reads ended as the last of them says, and a write failed exactly where the last one said so
pub record Ended (places : ℕ) (lent left : Lent) (new : List ℕ) (k k' : Known) (got : Option ℕ) (said : Bool) (p : Result ⊤ Error) : Type 0 where
  pub first : Held
  pub opens : OpenEnsures lent first
  pub read : Result ⊤ Error
  pub heard : ReadHeard read got
  pub last : Held
  pub midway : Known
  pub reads : AllRead places first last k midway read
  pub old : List ℕ
  pub totals : Result ⊤ Error
  pub concludes : OnOk read (Concludes last old left new midway.holds k'.holds totals)
  pub unwritten : OnErr read (Keeps midway.holds k'.holds)
  pub ends : p ≡ after_reads read totals
  pub told : WriteTold p said

-- a run to its end, which leaves the query list, the tables and the output like this: the session of all bytes that
-- were fed, opened on these, is whole
pub record RanReads (lent left : Lent) (new : List ℕ) : Type 0 where
  pub number : ℕ
  pub bytes : List ℕ
  pub reads : Intake number bytes
  pub ran : RanAll bytes lent left new

-- a session that was broken off where it was like `Broken`, and the query list and the tables that it left
pub record BrokenOff (Broken : Held → Type 0) (left : Lent) : Type 0 where
  pub last : Held
  pub broken : Broken last
  pub leaves : left ≡ lent_of last

-- run: the whole session, or one that was broken off since a read or a write failed, or after 2^64 - 2 bytes. Where a
-- write failed nothing is promised
unfoldable pub Concluded : Lent → Lent → List ℕ → Result ⊤ Error → Type 0
Concluded lent left new (Ok x) = RanReads lent left new
Concluded lent left new (Err (error.ReadFailed e)) = BrokenOff (ReachedReads lent) left
Concluded lent left new (Err (error.WriteFailed e)) = Unit {0}
Concluded lent left new (Err error.TooLong) = BrokenOff (ReachedLimit lent) left

-- the claim about such a run: what was put into the output, in all, is the session of all bytes that were fed
abbrev pub WholeRun : Type 0
WholeRun = (lent left : Lent) (new : List ℕ) (r : RanReads lent left new) → r.ran.output ≡ session_output r.bytes
