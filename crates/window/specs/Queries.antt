-- What a query means (document 01, "What a query means" and "Where partials are cut"). The record itself is the code's
-- `Query`: number, kind, range r, slide s and origin, which is document 01's registration point g.
-- Assumes nothing.
use Rattle.std.specs.Prelude.{ℕ, ◌+◌, ◌-◌, ◌%◌, ◌≤◌, max, min, Bool, ◌&&◌, ◌||◌, List, map, ltb, eqb}
use Rattle.window.specs.declared.query.Query.{Query}
use Rattle.window.specs.Orders.{aggregate}

-- ---- limits

-- a query number is 1 to 65,535
abbrev pub number_limit : ℕ
number_limit = 65535

-- a kind is 1 to 4
abbrev pub kind_limit : ℕ
kind_limit = 4

-- a range and a slide are each 1 to 4,096 readings
abbrev pub length_limit : ℕ
length_limit = 4096

-- at most 32 queries are registered together
abbrev pub query_limit : ℕ
query_limit = 32

-- n is 0 to 4,294,967,295
abbrev pub count_limit : ℕ
count_limit = 4294967295

-- the fields of a query are within their limits
pub record Limits (q : Query) : Type 0 where
  pub number_low : 1 ≤ q.number
  pub number_high : q.number ≤ number_limit
  pub kind_low : 1 ≤ q.kind
  pub kind_high : q.kind ≤ kind_limit
  pub range_low : 1 ≤ q.range
  pub range_high : q.range ≤ length_limit
  pub slide_low : 1 ≤ q.slide
  pub slide_high : q.slide ≤ length_limit

-- ---- the four kinds, by document 01's numbers

abbrev pub sum_kind : ℕ
sum_kind = 1

abbrev pub count_kind : ℕ
count_kind = 2

abbrev pub maximum_kind : ℕ
maximum_kind = 3

-- the one that `window_value` takes for what is none of the others
abbrev pub minimum_kind : ℕ
minimum_kind = 4

-- ---- the query that a registration brings, with g = n

abbrev pub joining : (number kind range slide n : ℕ) → Query
joining number kind range slide n = record { number = number; kind = kind; range = range; slide = slide; origin = n }

-- ---- when it is answered, over which readings, and where it cuts

-- how far m is from where the query's slides are counted: from its registration point
unfoldable pub phase : ℕ → Query → ℕ
phase m q = m - q.origin

-- it is due at each n > g where n - g is a multiple of s
abbrev pub due : ℕ → Query → Bool
due n q = ltb q.origin n && eqb (phase n q % q.slide) 0

-- document 01: the query cuts at m, which is an edge of its windows. At m > g: m - g is a multiple of s (a window ends
-- there), or m - g + r is one (a window begins there)
abbrev pub edge : ℕ → Query → Bool
edge m q = ltb q.origin m && (eqb (phase m q % q.slide) 0 || eqb ((phase m q + q.range) % q.slide) 0)

-- its window at n holds readings max(g, n - r) + 1 to n; n - r counts as 0 where it would be below 0
abbrev pub window_start : ℕ → Query → ℕ
window_start n q = max q.origin (n - q.range)

-- the count of readings in that window; below r while the window is still filling
abbrev pub window_count : ℕ → Query → ℕ
window_count n q = n - window_start n q

-- the horizon at n: the least max(g, n - r) over the registered queries. With none registered nothing closes, and
-- nothing is measured by it; it is n there.
abbrev pub horizon : ℕ → List Query → ℕ
horizon n qs = aggregate min n (map (window_start n) qs)
