-- What the open calls promise where the query list is lent, for every input: what the engine's calls promise of the
-- first 32 records, in their words, and that no other record is written.
-- Assumes nothing.
use Rattle.std.specs.Prelude.{ℕ, ◌≡◌, true, false, List, ℤ}
use Rattle.window.specs.Calls.{Outcome, refused}
use Rattle.registry.specs.Records.{record_limit}
use Rattle.board.specs.Tables.{KeptBeyond}
use Rattle.engine.specs.Promises.{Promise, ReadingEnsures, places_after}
use Rattle.lent.specs.Lent.{Lent, list_long, lent_long, lent_machine}

-- a call on m came to o and left m'
pub record OnLent (promise : Promise) (m : Lent) (o : Outcome) (m' : Lent) : Type 0 where
  -- check 1, on all seven tables
  pub short : lent_long m ≡ false → o ≡ refused 1
  -- with a list that is long enough: what the layer below promises of its first 32 records
  pub promised : list_long m ≡ true → promise (lent_machine m) o (lent_machine m')
  -- a refused call changes nothing: what goes by value, every record, every table
  pub unchanged : (k : ℕ) → o ≡ refused k → m' ≡ m
  -- no record beyond the first 32 is written
  pub kept : KeptBeyond record_limit m.records m'.records

-- the reading v, with an answer table that held `before` and holds `after`
pub record ReadingOnLent (v : ℤ) (before after : List ℤ) (m : Lent) (o : Outcome) (m' : Lent) : Type 0 where
  pub on_lent : OnLent (ReadingEnsures v before after) m o m'
  pub places : after ≡ places_after o before
  -- no query joins or leaves
  pub records : m'.records ≡ m.records
