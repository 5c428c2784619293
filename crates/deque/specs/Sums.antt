-- The closed partials with their sums, on tables of starts and of sums. The table holds at each place the sum of the
-- partials at the places before it, since place 0: a lap of the ring. So the sum from an entry to the newest is a
-- difference, and no number grows with the feed.
--
-- An example, with 4 places in place of 4,096. Six partials of the sums 5, 2, 7, 1, 4, 3 were pushed, the first at
-- place 0, so that the fifth began the second lap, and the first two were evicted: the ring's head is place 2, its
-- length 4.
--     place                 0    1    2    3
--     partial's sum         4    3    7    1
--     the table holds       0    4    7   14      before place 1: 4; before place 3, in the lap before: 5 + 2 + 7
--     lap 7 (4 + 3), previous 15 (5 + 2 + 7 + 1), newest place 1
-- From place 1 on: 7 - 4 = 3. From place 3 on, which is greater than the newest place: 7 - 14 + 15 = 8 = 1 + 4 + 3.
-- Assumes nothing.
use Rattle.std.specs.Prelude.{ℕ, suc, ◌+◌, ◌-◌, ◌*◌, ◌%◌, ◌<◌, cond, List, ltb, ℤ, pos, ◌+ℤ◌, ◌-ℤ◌, get_or}
use Rattle.ints.specs.Sizes.{Small}
use Rattle.window.specs.Partials.{Entry}
use Rattle.deque.specs.declared.sums.Sums.{Sums}
use Rattle.deque.specs.Rings.{capacity, place, Fits, listed, entry_with, start_at}

-- ---- the entries

-- the sum that stands at a place of the table of sums
abbrev pub sum_at : List ℤ → ℕ → ℤ
sum_at sums p = get_or sums p (pos 0)

-- the place of the newest entry
abbrev pub newest_place : Sums → ℕ
newest_place s = place s.ring.head (s.ring.len - 1)

-- the sum of the lap before, where place p is greater than that of the newest: what stands there belongs to the lap
-- before
abbrev pub lap_behind : Sums → ℕ → ℤ
lap_behind s p = cond (ltb (newest_place s) p) s.previous (pos 0)

-- the sum of the entries from the one at place p to the newest: the lap so far, without what came before p, and with
-- the lap before it where p belongs to that
abbrev pub sum_from_place : List ℤ → Sums → ℕ → ℤ
sum_from_place sums s p = s.lap -ℤ sum_at sums p +ℤ lap_behind s p

-- the sum of the entries from entry j on; 0 from the end on
abbrev pub sum_from : List ℤ → Sums → ℕ → ℤ
sum_from sums s j = cond (ltb j s.ring.len) (sum_from_place sums s (place s.ring.head j)) (pos 0)

-- entry j: its start, with the sum of its readings
abbrev pub partial_at : List ℕ → List ℤ → Sums → ℕ → Entry ℤ
partial_at starts sums s j = entry_with (start_at starts (place s.ring.head j)) (sum_from sums s j -ℤ sum_from sums s (suc j))

-- the partials that the ring holds, oldest first
abbrev pub partials_of : List ℕ → List ℤ → Sums → List (Entry ℤ)
partials_of starts sums s = listed s.ring.len (partial_at starts sums s)

-- ---- the sizes

-- the sum of a partial is at most 2^47 in size: 65,536 readings of 2^31
abbrev pub sum_limit : ℕ
sum_limit = 140737488355328

-- and that of a whole lap at most 2^59
abbrev pub lap_limit : ℕ
lap_limit = capacity * sum_limit

-- how many places of the lap come before place p; where p is 0, the whole lap before it
abbrev pub lap_places : ℕ → ℕ
lap_places p = (p + (capacity - 1)) % capacity + 1

-- what the code asks of the state of the sums, and keeps
pub record FitsSums (s : Sums) : Type 0 where
  pub ring : Fits s.ring
  pub lap : Small (lap_places (place s.ring.head s.ring.len) * sum_limit) s.lap
  pub previous : Small lap_limit s.previous

-- the numbers that the table holds are within their bound
abbrev pub InBounds : List ℤ → Sums → Type 0
InBounds sums s = (j : ℕ) → j < s.ring.len → Small lap_limit (sum_at sums (place s.ring.head j))
