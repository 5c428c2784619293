-- The calls, and what they return.
-- Assumes nothing.
use Rattle.std.specs.Prelude.{ℕ, List, ℤ}
use Rattle.std.specs.Int.{w32}
use Rattle.std.proofs.Common.{SFits}

-- a reading is a signed 32-bit whole number. The model takes any number; the code's readings are such by their type,
-- and a law bounds their sums by it
abbrev pub IsReading : ℤ → Type 0
IsReading z = SFits w32 z

-- a call, with what the caller hands over
pub data Call : Type 0 where
  start : Call
  register : (number kind range slide : ℕ) → Call
  withdraw : (number : ℕ) → Call
  -- a reading, with the length of its answer table
  reading : (value : ℤ) (places : ℕ) → Call
  totals : Call

-- P of the reading that a call brings, if it brings one; only laws use it
abbrev pub OfReading : (ℤ → Type 0) → Call → Type 0
OfReading P start = Unit {0}
OfReading P (register number kind range slide) = Unit {0}
OfReading P (withdraw number) = Unit {0}
OfReading P (reading v places) = P v
OfReading P totals = Unit {0}

-- one answer: query number, kind, count of readings in the window, value
pub record Answer : Type 0 where
  pub number : ℕ
  pub kind : ℕ
  pub count : ℕ
  pub value : ℤ

-- an accepted call returns its numbers and, at a reading, its answers; a refused one its number and nothing else
pub data Outcome : Type 0 where
  accepted : List ℕ → List Answer → Outcome
  refused : ℕ → Outcome
