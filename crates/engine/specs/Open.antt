-- The open partial, as the engine keeps it: the aggregates of its readings in place of the readings.
-- Assumes nothing.
use Rattle.std.specs.Prelude.{ℕ, ◌-◌, ◌*◌, ◌+◌, ◌≤◌, ◌<◌, cond, eqb, ℤ}
use Rattle.ints.specs.Sizes.{Small}
use Rattle.window.specs.Queries.{length_limit}
use Rattle.board.specs.declared.aggregate.Aggregate.{Aggregate}
use Rattle.board.specs.Aggregates.{first_reading, extended}
use Rattle.engine.specs.declared.partial.Open.{Open}
use Rattle.engine.specs.declared.partial.Open.TheVariants.{Nothing, Empty, Holding}

-- ---- a reading joins

-- the open partial with the reading after n
abbrev pub open_with : ℕ → ℤ → Open → Open
open_with n v Nothing = Nothing
open_with n v Empty = Holding (first_reading n v)
open_with n v (Holding a) = Holding (extended v a)

-- ---- queries leave

-- with no query left, what is open is dropped
abbrev pub open_while : ℕ → Open → Open
open_while left o = cond (eqb left 0) Nothing o

-- ---- what check 2 asks of it

-- a reading is at most 2^31 in size
abbrev pub reading_size : ℕ
reading_size = 2147483648

-- the sum of 4,096 readings is at most 2^43 in size
abbrev pub size_limit : ℕ
size_limit = length_limit * reading_size

-- with n readings taken and P partials closed: it starts no earlier than what is closed ends, holds a reading, holds
-- fewer than 4,096, and its sum is no greater than theirs can be
pub record FitsAggregate (n closed : ℕ) (a : Aggregate) : Type 0 where
  pub after : closed ≤ a.start
  pub holds : a.start < n
  pub short : n < a.start + length_limit
  pub small : Small ((n - a.start) * reading_size) a.sum

-- the same of what is open: of none and of an empty one nothing is asked
abbrev pub FitsOpen : ℕ → ℕ → Open → Type 0
FitsOpen n closed Nothing = Unit {0}
FitsOpen n closed Empty = Unit {0}
FitsOpen n closed (Holding a) = FitsAggregate n closed a
