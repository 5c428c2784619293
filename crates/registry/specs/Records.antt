-- The list of registered queries, as numbers that are lent: 32 records of five numbers (number, kind, range, slide,
-- registration point), of which the first ones are used, and the places of the used ones by ascending number.
-- Assumes nothing.
use Rattle.std.specs.Prelude.{◌≡◌, ℕ, zero, suc, ◌+◌, ◌-◌, ◌*◌, Bool, true, cond, not, ◌&&◌, List, [], ◌∷◌, ◌++◌, length, take, drop, replicate, nat_le, nat_lt, slice_index, slice_set, Option, position}
use Rattle.window.specs.declared.query.Query.{Query}
use Rattle.window.specs.Lists.{any}
use Rattle.window.specs.Queries.{query_limit}
use Rattle.window.specs.Refusals.{has_number, broken_record}

-- ---- where things stand

-- the list has 32 records, one for each query that can be registered
abbrev pub record_limit : ℕ
record_limit = query_limit

-- how many numbers a record has
abbrev pub query_numbers : ℕ
query_numbers = 5

-- where the places by ascending number begin, behind the records
abbrev pub order_at : ℕ
order_at = 160

-- how many numbers the list has
abbrev pub list_places : ℕ
list_places = 192

-- ---- records

-- f of so many numbers from i on
abbrev pub tabulate : {A : Type 0} → (ℕ → A) → (i k : ℕ) → List A
tabulate f i zero = []
tabulate f i (suc k) = f i ∷ tabulate f (i + 1) k

-- the number of the record at a place
abbrev pub number_at : List ℕ → ℕ → ℕ
number_at l i = slice_index l (query_numbers * i)

-- the registration point of the record at a place
abbrev pub origin_at : List ℕ → ℕ → ℕ
origin_at l i = slice_index l (query_numbers * i + 4)

-- the record at a place
abbrev pub record_at : List ℕ → ℕ → Query
record_at l i =
    record { number = number_at l i; kind = slice_index l (query_numbers * i + 1); range = slice_index l (query_numbers * i + 2); slide = slice_index l (query_numbers * i + 3); origin = origin_at l i }

-- the used records come first, in registration order
abbrev pub used : ℕ → List ℕ → List Query
used k l = tabulate (record_at l) 0 k

-- the list with this record at a place
abbrev pub with_record : ℕ → Query → List ℕ → List ℕ
with_record i q l =
    slice_set (slice_set (slice_set (slice_set (slice_set l (query_numbers * i) q.number) (query_numbers * i + 1) q.kind) (query_numbers * i + 2) q.range) (query_numbers * i + 3) q.slide) (query_numbers * i + 4) q.origin

-- ---- the places by ascending number

-- those of the first k records
abbrev pub order : ℕ → List ℕ → List ℕ
order k l = take k (drop order_at l)

-- along these places, each of one of the first k records, the numbers ascend, from above `last` on
abbrev pub climbs : (k last : ℕ) → List ℕ → List ℕ → Bool
climbs k last l [] = true
climbs k last l (p ∷ ps) = nat_lt p k && (nat_lt last (number_at l p) && climbs k (number_at l p) l ps)

-- the places of k used records are in order
unfoldable pub ordered : ℕ → List ℕ → Bool
ordered k l = climbs k 0 l (order k l)

-- how many places come before the first whose number is not less than this one
abbrev pub rank : ℕ → List ℕ → List ℕ → ℕ
rank number l [] = 0
rank number l (p ∷ ps) = cond (nat_lt (number_at l p) number) (suc (rank number l ps)) 0

-- the places with one more, before the first whose number is not less than its own
abbrev pub with_place : ℕ → List ℕ → List ℕ → List ℕ
with_place p l ps = take (rank (number_at l p) l ps) ps ++ p ∷ drop (rank (number_at l p) l ps) ps

-- the list with the place of record k among those of the first k
unfoldable pub inserted : ℕ → List ℕ → List ℕ
inserted k l = take order_at l ++ with_place k l (order k l) ++ drop (order_at + suc k) l

-- ---- check 2

-- with n readings taken: at most 32 records are used, their places are in order, and none is broken
unfoldable pub list_fits : (n k : ℕ) → List ℕ → Bool
list_fits n k l = nat_le k record_limit && (ordered k l && not (any (broken_record n) (used k l)))

-- ---- unused places

-- an unused record is all 0
abbrev pub unused : Query
unused = record { number = 0; kind = 0; range = 0; slide = 0; origin = 0 }

-- after the first k, records and places by number are 0
pub record Tidy (k : ℕ) (l : List ℕ) : Type 0 where
  pub records : tabulate (record_at l) k (record_limit - k) ≡ replicate (record_limit - k) unused
  pub order : take (record_limit - k) (drop (order_at + k) l) ≡ replicate (record_limit - k) 0

-- no number beyond the list's is written
pub record ListKept (l l' : List ℕ) : Type 0 where
  pub as_long : length l' ≡ length l
  pub beyond : drop list_places l' ≡ drop list_places l

-- ---- the place of a query

-- where the first query with this number stands, from 0
abbrev pub place_of : ℕ → List Query → Option ℕ
place_of number qs = position (has_number number) qs
