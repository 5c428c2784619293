-- Refusals: document 01's number for each, and the order of the checks ("The calls and where each refuses"). The cases
-- are the code's enum `Refusal`.
-- Assumes nothing.
use Rattle.std.specs.Prelude.{ℕ, ◌+◌, ◌*◌, Bool, false, not, ◌&&◌, ◌||◌, cond, List, [], ◌∷◌, ◌++◌, leb, ltb, eqb, length, Result, Ok, Err}
use Rattle.window.specs.declared.query.Query.{Query}
use Rattle.window.specs.declared.refusal.Refusal.{Refusal}
use Rattle.window.specs.declared.refusal.Refusal.TheVariants.{TableTooShort, Damaged, NumberOutside, KindOutside, RangeOutside, SlideOutside, NumberTaken, ListFull, NotRegistered, CountExhausted, AnswersTooShort, LineTooLong, UnknownLine, NotANumber, OutsideWidth}
use Rattle.window.specs.Lists.{filter, any}
use Rattle.window.specs.Queries.{number_limit, kind_limit, length_limit, query_limit, count_limit, due}

-- document 01's number of each refusal
abbrev pub refusal_number : Refusal → ℕ
refusal_number TableTooShort = 1
refusal_number Damaged = 2
refusal_number NumberOutside = 3
refusal_number KindOutside = 4
refusal_number RangeOutside = 5
refusal_number SlideOutside = 6
refusal_number NumberTaken = 7
refusal_number ListFull = 8
refusal_number NotRegistered = 9
refusal_number CountExhausted = 10
refusal_number AnswersTooShort = 11
refusal_number LineTooLong = 12
refusal_number UnknownLine = 13
refusal_number NotANumber = 14
refusal_number OutsideWidth = 15

-- a check: whether its condition holds, and the refusal that it then gives
pub record Check : Type 0 where
  pub applies : Bool
  pub refusal : Refusal

-- whether the check's condition holds, as a test
abbrev pub applying : Check → Bool
applying c = c.applies

-- the check with this condition and this refusal
abbrev pub check : Bool → Refusal → Check
check condition refusal = record { applies = condition; refusal = refusal }

-- what a run of checks comes to: none applies, or the refusal of the first that does
abbrev pub Verdict : Type 0
Verdict = Result (Unit {0}) Refusal

-- checks go from top to bottom; the first that applies decides
abbrev pub first_refusal : List Check → Verdict
first_refusal [] = Ok tt
first_refusal (c ∷ cs) = cond c.applies (Err c.refusal) (first_refusal cs)

-- x is low to high
abbrev pub within : ℕ → ℕ → ℕ → Bool
within low high x = leb low x && leb x high

-- the query has this number
abbrev pub has_number : ℕ → Query → Bool
has_number number q = eqb number q.number

-- that number is registered now
abbrev pub is_registered : ℕ → List Query → Bool
is_registered number qs = any (has_number number) qs

-- register, number and kind: 3 and 4
unfoldable pub name_checks : (number kind : ℕ) → List Check
name_checks number kind =
    check (not (within 1 number_limit number)) NumberOutside ∷ check (not (within 1 kind_limit kind)) KindOutside ∷ []

-- register, range and slide: 5 and 6
unfoldable pub length_checks : (range slide : ℕ) → List Check
length_checks range slide =
    check (not (within 1 length_limit range)) RangeOutside ∷ check (not (within 1 length_limit slide)) SlideOutside ∷ []

-- register, fields: 3 to 6
unfoldable pub field_checks : (number kind range slide : ℕ) → List Check
field_checks number kind range slide = name_checks number kind ++ length_checks range slide

-- register, list: 7 and 8
unfoldable pub list_checks : List Query → ℕ → List Check
list_checks qs number = check (is_registered number qs) NumberTaken ∷ check (leb query_limit (length qs)) ListFull ∷ []

-- register: 3 to 8
unfoldable pub register_checks : List Query → (number kind range slide : ℕ) → List Check
register_checks qs number kind range slide = field_checks number kind range slide ++ list_checks qs number

-- withdraw, list: 9
unfoldable pub withdraw_checks : List Query → ℕ → List Check
withdraw_checks qs number = check (not (is_registered number qs)) NotRegistered ∷ []

-- the queries due at n, in registration order
abbrev pub due_at : ℕ → List Query → List Query
due_at n qs = filter (due n) qs

-- the places of an answer in the answer table
abbrev pub answer_places : ℕ
answer_places = 4

-- reading, count: 10
unfoldable pub count_checks : (limit n : ℕ) → List Check
count_checks limit n = check (leb limit n) CountExhausted ∷ []

-- reading, answer table: 11
unfoldable pub places_checks : ℕ → List Query → ℕ → List Check
places_checks n qs places = check (ltb places (answer_places * length (due_at (n + 1) qs))) AnswersTooShort ∷ []

-- reading: 10 and 11
unfoldable pub reading_checks_at : (limit n : ℕ) → List Query → ℕ → List Check
reading_checks_at limit n qs places = count_checks limit n ++ places_checks n qs places

-- with the limit of this form
abbrev pub reading_checks : ℕ → List Query → ℕ → List Check
reading_checks n qs places = reading_checks_at count_limit n qs places

-- ---- the part of refusal 2 that is always given

-- a used record breaks 3 to 6, or has g above n
abbrev pub broken_record : ℕ → Query → Bool
broken_record n q =
    any applying (field_checks q.number q.kind q.range q.slide) || ltb n q.origin

-- two used records share a number
abbrev pub shared_number : List Query → Bool
shared_number [] = false
shared_number (q ∷ qs) = is_registered q.number qs || shared_number qs

-- with n readings taken: the query count is above 32, or one of these holds of the used records qs, which are as many
-- as that count says wherever it is at most 32
unfoldable pub damaged : (n queryCount : ℕ) → List Query → Bool
damaged n queryCount qs = ltb query_limit queryCount || (any (broken_record n) qs || shared_number qs)
