-- The starred cases of document 01, "Figures to hold it to", and its sample session: ONE list of calls with what each
-- returns. A `start` call parts the cases. `proofs/Cases.antt` has the one proof that the reference model returns just
-- this. The document gives P, M and N in some places only. A `totals` row has all four numbers; the comment of its case
-- names those that the document gives.
-- Assumes nothing.
use Rattle.std.specs.Prelude.{ℕ, zero, suc, ◌+◌, List, [], ◌∷◌, ◌++◌, ℤ, pos, neg_ℤ}
use Rattle.window.specs.Calls.{Call, start, register, withdraw, reading, totals, Outcome, accepted, refused}

-- a call, and what it returns
pub record Row : Type 0 where
  pub call : Call
  pub returned : Outcome

infix 80 ◌returns◌
abbrev pub ◌returns◌ : Call → Outcome → Row
c returns o = record { call = c; returned = o }

abbrev pub call_of : Row → Call
call_of r = r.call

abbrev pub returned_of : Row → Outcome
returned_of r = r.returned

abbrev minus : ℕ → ℤ
minus k = neg_ℤ (pos k)

-- a reading with an answer table for 32 answers
abbrev read : ℤ → Call
read v = reading v 128

-- accepted, with 0: a start, a registration, a withdrawal, or a reading at which no query was due
abbrev ok : Outcome
ok = accepted (0 ∷ []) []

-- a reading with one answer: query number, kind, count, value
abbrev one : ℕ → ℕ → ℕ → ℤ → Outcome
one number kind count value = accepted (1 ∷ []) (record { number = number; kind = kind; count = count; value = value } ∷ [])

-- totals: n, P, M, N
abbrev tally : ℕ → ℕ → ℕ → ℕ → Outcome
tally n p m k = accepted (n ∷ p ∷ m ∷ k ∷ []) []

-- so many registrations, numbered from k on
abbrev registrations : ℕ → ℕ → List Row
registrations zero k = []
registrations (suc m) k = register k 1 1 1 returns ok ∷ registrations m (k + 1)

-- 1 and 2: maximum, r 3, s 1, over S = 5, 3, 3, 8, -2, 6, 1. M 3 after the third reading; P 7, M 8, N 8 at the end
abbrev sliding_maximum : List Row
sliding_maximum =
    start returns ok
    ∷ register 1 3 3 1 returns ok
    ∷ read (pos 5) returns one 1 3 1 (pos 5)
    ∷ read (pos 3) returns one 1 3 2 (pos 5)
    ∷ read (pos 3) returns one 1 3 3 (pos 5)
    ∷ totals returns tally 3 3 3 2
    ∷ read (pos 8) returns one 1 3 3 (pos 8)
    ∷ read (minus 2) returns one 1 3 3 (pos 8)
    ∷ read (pos 6) returns one 1 3 3 (pos 8)
    ∷ read (pos 1) returns one 1 3 3 (pos 6)
    ∷ totals returns tally 7 7 8 8
    ∷ []

-- 3: sum, r 5, s 3, over S. P 5
abbrev sliding_sum : List Row
sliding_sum =
    start returns ok
    ∷ register 1 1 5 3 returns ok
    ∷ read (pos 5) returns ok
    ∷ read (pos 3) returns ok
    ∷ read (pos 3) returns one 1 1 3 (pos 11)
    ∷ read (pos 8) returns ok
    ∷ read (minus 2) returns ok
    ∷ read (pos 6) returns one 1 1 5 (pos 18)
    ∷ read (pos 1) returns ok
    ∷ totals returns tally 7 5 5 5
    ∷ []

-- 4: maximum, r 1, s 4, over S. P 3 after 7
abbrev short_range : List Row
short_range =
    start returns ok
    ∷ register 1 3 1 4 returns ok
    ∷ read (pos 5) returns ok
    ∷ read (pos 3) returns ok
    ∷ read (pos 3) returns ok
    ∷ read (pos 8) returns one 1 3 1 (pos 8)
    ∷ read (minus 2) returns ok
    ∷ read (pos 6) returns ok
    ∷ read (pos 1) returns ok
    ∷ totals returns tally 7 3 0 0
    ∷ []

-- 5: maximum over the single reading -2,147,483,648; and, beyond the document, minimum over the single reading
-- 2,147,483,647
abbrev ends_of_range : List Row
ends_of_range =
    start returns ok
    ∷ register 1 3 1 1 returns ok
    ∷ read (minus 2147483648) returns one 1 3 1 (minus 2147483648)
    ∷ start returns ok
    ∷ register 1 4 1 1 returns ok
    ∷ read (pos 2147483647) returns one 1 4 1 (pos 2147483647)
    ∷ []

-- 6: as 3, but a maximum, r 2, s 2, is registered after two readings. P 2 then, 3 after the third; the sum at n = 3 is
-- still 11
abbrev later_registration : List Row
later_registration =
    start returns ok
    ∷ register 1 1 5 3 returns ok
    ∷ read (pos 5) returns ok
    ∷ read (pos 3) returns ok
    ∷ register 2 3 2 2 returns ok
    ∷ totals returns tally 2 2 1 1
    ∷ read (pos 3) returns one 1 1 3 (pos 11)
    ∷ totals returns tally 3 3 3 2
    ∷ []

-- 7: withdrawing the only query with a reading open. P unchanged
abbrev last_withdrawal : List Row
last_withdrawal =
    start returns ok
    ∷ register 1 1 5 3 returns ok
    ∷ read (pos 5) returns ok
    ∷ read (pos 3) returns ok
    ∷ totals returns tally 2 1 0 0
    ∷ withdraw 1 returns ok
    ∷ totals returns tally 2 1 0 0
    ∷ []

-- 8 and 9: range 4,096 is accepted, 4,097 and 0 are refused with 5; number 0 with kind 9 is refused with 3
abbrev field_limits : List Row
field_limits =
    start returns ok
    ∷ register 1 1 4096 1 returns ok
    ∷ register 2 1 4097 1 returns refused 5
    ∷ register 2 1 0 1 returns refused 5
    ∷ register 0 9 1 1 returns refused 3
    ∷ []

-- 10: the 33rd query is refused with 8; after one withdrawal it is accepted
abbrev full_list : List Row
full_list =
    (start returns ok ∷ registrations 32 1) ++ (register 33 1 1 1 returns refused 8 ∷ withdraw 7 returns ok ∷ register 33 1 1 1 returns ok ∷ [])

-- the sample session of "Session lines"; its last row is the T line: P 4, M 4, N 4
abbrev sample_session : List Row
sample_session =
    start returns ok
    ∷ register 2 1 5 3 returns ok
    ∷ read (pos 5) returns ok
    ∷ read (pos 3) returns ok
    ∷ read (pos 3) returns one 2 1 3 (pos 11)
    ∷ register 7 3 2 2 returns ok
    ∷ read (pos 8) returns ok
    ∷ read (minus 2) returns one 7 3 2 (pos 8)
    ∷ withdraw 2 returns ok
    ∷ withdraw 2 returns refused 9
    ∷ read (pos 6) returns ok
    ∷ totals returns tally 6 4 4 4
    ∷ []

-- beyond the document: a reading whose answer table is one place short is refused with 11 and not counted; a number in
-- use is refused with 7
abbrev refused_reading : List Row
refused_reading =
    start returns ok
    ∷ register 1 2 3 1 returns ok
    ∷ reading (pos 5) 3 returns refused 11
    ∷ register 1 2 3 1 returns refused 7
    ∷ totals returns tally 0 0 0 0
    ∷ reading (pos 5) 4 returns one 1 2 1 (pos 1)
    ∷ totals returns tally 1 1 0 0
    ∷ []

abbrev pub starred : List Row
starred =
    sliding_maximum
    ++ (sliding_sum
    ++ (short_range
    ++ (ends_of_range
    ++ (later_registration
    ++ (last_withdrawal ++ (field_limits ++ (full_list ++ (sample_session ++ refused_reading))))))))
