-- Check 2 on the fields of many records at once: number, kind, range and slide, by the bits that they have together.
-- Assumes nothing.
use Rattle.std.specs.Prelude.{◌≡◌, ℕ, ◌+◌, ◌^◌, ◌<◌, Bool, not, ◌||◌, nat_le, nat_lt}
use Rattle.window.specs.declared.query.Query.{Query}
use Rattle.window.specs.Queries.{number_limit, kind_limit, length_limit}
use Rattle.window.specs.Refusals.{within}
use Rattle.registry.specs.declared.bits.Bits.{Bits}

-- a kind, a range or a slide that breaks 4 to 6, or a number that is 0 or above 65,536: a power of 2, one above the
-- limit in 3
unfoldable pub fields_outside : Query → Bool
fields_outside q =
    not (within 1 (number_limit + 1) q.number) || (not (within 1 kind_limit q.kind) || (not (within 1 length_limit q.range) || not (within 1 length_limit q.slide)))

-- bits that say so of some record
unfoldable pub bits_outside : Bits → Bool
bits_outside b = nat_lt number_limit b.number || (nat_le kind_limit b.kind || (nat_le length_limit b.range || nat_le length_limit b.slide))

-- the bits b became r with those of x less 1: r is below a power of 2 exactly where b is and x is 1 to that power
abbrev pub FieldJoined : (b x r : ℕ) → Type 0
FieldJoined b x r = (m : ℕ) → 2 ^ m < 2 ^ 32 → nat_le (2 ^ m) r ≡ (nat_le (2 ^ m) b || not (within 1 (2 ^ m) x))
