-- Laws of `padded`, `first_records` and `overwritten`: of which parts they are made, as `load` and `store` make them,
-- how long they are, and which records stand where.
-- Assumes nothing.
use Rattle.std.proofs.Common.{◌≡◌, ℕ, zero, suc, ◌≤◌, min, List, [], ◌∷◌, ◌++◌, length, take, drop, replicate, refl, ap, not-suc-le-zero, le_of_suc-le-suc}
use Rattle.std.proofs.Math.Nat.{zero-min, min-zero, suc-min-suc}
use Rattle.window.specs.declared.query.Query.{Query}
use Rattle.registry.specs.Records.{record_limit, unused}
use Rattle.records.specs.LentList.{padded, first_records, overwritten}

-- ---- the first records of a list

-- of no records at all, every place is unused
pub padded-none : (m : ℕ) → padded m [] ≡ replicate m unused
unfolding padded
padded-none zero = refl
padded-none (suc m) = ap (λ (t : List Query). unused ∷ t) (padded-none m)

-- they are the list's own, and unused ones in the places that it does not have
padded_parts : (m : ℕ) (xs : List Query) → padded m xs ≡ take (min (length xs) m) xs ++ drop (min (length xs) m) (replicate m unused)
unfolding padded
padded_parts zero xs = rw min-zero
padded_parts (suc m) [] = rw zero-min (ap (λ (t : List Query). unused ∷ t) (padded-none m))
padded_parts (suc m) (x ∷ xs) = rw suc-min-suc (ap (λ (t : List Query). x ∷ t) (padded_parts m xs))

-- so are the first 32
pub first_parts : (xs : List Query) → first_records xs ≡ take (min (length xs) record_limit) xs ++ drop (min (length xs) record_limit) (replicate record_limit unused)
unfolding first_records
first_parts xs = padded_parts record_limit xs

-- a list with m places or more is padded by nothing
padded-long : (m : ℕ) (xs : List Query) → m ≤ length xs → padded m xs ≡ take m xs
unfolding padded
padded-long zero xs l = refl
padded-long (suc m) [] l = absurd (not-suc-le-zero l)
padded-long (suc m) (x ∷ xs) l = ap (λ (t : List Query). x ∷ t) (padded-long m xs (le_of_suc-le-suc l))

-- the first 32 of a list with 32 places or more are its own
pub first-long : (xs : List Query) → record_limit ≤ length xs → first_records xs ≡ take record_limit xs
unfolding first_records
first-long xs l = padded-long record_limit xs l

-- ---- a list with records put into its first places

-- of the first c records, those for which there is a place stand in front of the list's own
overwritten_parts : (c : ℕ) (ys xs : List Query) → overwritten (take c ys) xs ≡ take (min (min (length xs) (length ys)) c) ys ++ drop (min (min (length xs) (length ys)) c) xs
unfolding overwritten
overwritten_parts zero ys xs = rw min-zero
overwritten_parts (suc c) [] xs = rw (min-zero, zero-min)
overwritten_parts (suc c) (y ∷ ys) [] = rw (zero-min, zero-min)
overwritten_parts (suc c) (y ∷ ys) (x ∷ xs) = rw (suc-min-suc, suc-min-suc) (ap (λ (t : List Query). y ∷ t) (overwritten_parts c ys xs))

-- the same for an array of 32 records
pub array_parts : (c : ℕ) (ys xs : List Query) → length ys ≡ record_limit → overwritten (take c ys) xs ≡ take (min (min (length xs) record_limit) c) ys ++ drop (min (min (length xs) record_limit) c) xs
array_parts c ys xs e = rw (← e) (overwritten_parts c ys xs)

-- it has as many places as before
pub overwritten-length : (ys xs : List Query) → length (overwritten ys xs) ≡ length xs
unfolding overwritten
overwritten-length [] xs = refl
overwritten-length (y ∷ ys) [] = refl
overwritten-length (y ∷ ys) (x ∷ xs) = ap suc (overwritten-length ys xs)

-- where there are places for all of them, they stand there
pub overwritten-first : (ys xs : List Query) → length ys ≤ length xs → take (length ys) (overwritten ys xs) ≡ ys
unfolding overwritten
overwritten-first [] xs l = refl
overwritten-first (y ∷ ys) [] l = absurd (not-suc-le-zero l)
overwritten-first (y ∷ ys) (x ∷ xs) l = ap (λ (t : List Query). y ∷ t) (overwritten-first ys xs (le_of_suc-le-suc l))

-- the places behind them are as before
pub overwritten_rest : (ys xs : List Query) → drop (length ys) (overwritten ys xs) ≡ drop (length ys) xs
unfolding overwritten
overwritten_rest [] xs = refl
overwritten_rest (y ∷ ys) [] = refl
overwritten_rest (y ∷ ys) (x ∷ xs) = overwritten_rest ys xs
