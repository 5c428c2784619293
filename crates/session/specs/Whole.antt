-- A whole session as one claim: for every input, however it is cut into chunks, what is written is the session's
-- meaning over the reference model. `proofs/Whole.antt` proves it.
-- Assumes nothing.
use Rattle.std.specs.Prelude.{ℕ, ◌≤◌, ◌≡◌, true, List, [], ◌++◌, length, take}
use Rattle.std.proofs.Math.Seq.{slice}
use Rattle.parse.specs.Kept.{kept_length}
use Rattle.session.specs.Meaning.{session_output}
use Rattle.session.specs.Promises.{Held, line_limit, Lent, lent_long, OpenEnsures, FeedEnsures, finish_room, FinishEnsures}

-- calls of feed, each on what the call before left: the bytes that they took, and what stood at the front of the output
-- after each, one after the other
pub data Fed : Held → List ℕ → List ℕ → Held → Type 0 where
  -- no call
  none : {h : Held} → Fed h [] [] h
  -- a first call, of any chunk from any place on and with any output, and then the others
  more : {h h' h'' : Held} {chunk old new input text : List ℕ} {from to filled : ℕ}
      → FeedEnsures chunk from h old h' to new filled → Fed h' input text h'' → Fed h (slice from to chunk ++ input) (take filled new ++ text) h''

-- a session that was opened on a query list and tables that pass check 1, whatever they held, with room for a line, and
-- fed this input: what stood at the front of the output, and what is held
pub record Begun (input text : List ℕ) (h : Held) : Type 0 where
  pub lent : Lent
  pub long : lent_long lent ≡ true
  pub first : Held
  pub opens : OpenEnsures lent first
  pub room : kept_length ≤ length first.line
  pub feeds : Fed first input text h

-- a session whole: opened, fed this input and finished; what was written
pub record SessionRan (input output : List ℕ) : Type 0 where
  pub text : List ℕ
  pub last : Held
  pub begun : Begun input text last
  pub old : List ℕ
  pub room : finish_room ≤ length old
  pub left : Lent
  pub new : List ℕ
  pub filled : ℕ
  pub finish : FinishEnsures last old left new filled
  pub all : output ≡ text ++ take filled new

-- the claim
abbrev pub WholeSession : Type 0
WholeSession = (input output : List ℕ) → SessionRan input output → output ≡ session_output input

-- ---- for a program that hands its input on as it comes

-- opened on this query list and these tables and fed this input, whatever it printed
pub record Reached (lent : Lent) (input : List ℕ) (h : Held) : Type 0 where
  pub text : List ℕ
  pub begun : Begun input text h
  pub on : begun.lent ≡ lent

-- opened on them and fed 2^64 - 2 bytes or more: as many as lines can end
pub record ReachedLimit (lent : Lent) (h : Held) : Type 0 where
  pub input : List ℕ
  pub reached : Reached lent input h
  pub many : line_limit ≤ length input

-- from one to the other these bytes are fed, whatever input came before
pub record Carries (bytes : List ℕ) (h h' : Held) : Type 0 where
  pub on : (lent : Lent) (input : List ℕ) → Reached lent input h → Reached lent (input ++ bytes) h'

-- from one to the other so many bytes are fed that they come to the limit with what came before
pub record CarriesLimit (h h' : Held) : Type 0 where
  pub on : (lent : Lent) (input : List ℕ) → Reached lent input h → ReachedLimit lent h'

-- a whole session of this input: opened on this query list and these tables, what was put into the output in all, and
-- the query list, the tables and the output that its end left
pub record RanAll (input : List ℕ) (lent left : Lent) (new : List ℕ) : Type 0 where
  pub output : List ℕ
  pub ran : SessionRan input output
  pub on : ran.begun.lent ≡ lent
  pub leaves : ran.left ≡ left
  pub ends : ran.new ≡ new
