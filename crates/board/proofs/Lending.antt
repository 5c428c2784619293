-- Laws of the lent tables: what check 1 gives of each, and the zeroes of a start.
-- Assumes nothing.
use Prim.Native.Nat.{ℕ, zero, suc, ◌+◌, ◌≤◌, ◌<◌}
use mathlib.Core.Path.{◌≡◌, refl, ap, ◌∙◌}
use mathlib.Core.Bool.{true}
use mathlib.Core.List.{List, ◌∷◌, ◌++◌}
use native.Mathlib.Numerals.{add-one}
use native.Mathlib.Omega.{arith}
use borrow.Author.Tests.{leb-true, le-leb}
use lib.Dec.{leb}
use lib.IntN.{ℤ, pos}
use lib.ListN.{length, length-append, get_or, drop, set, replicate, length-replicate}
use lib.Seq.{drop-cons, set_at}
use Rattle.window.proofs.Lists.{and_left, and_right}
use Rattle.deque.specs.Rings.{capacity}
use Rattle.board.specs.Tables.{Tables, tables, enough, tables_long, zeroed, zeroed_tables, KeptBeyond, TablesKept}

-- ---- check 1

-- each of the six tables has 4,096 places or more
pub record Long (t : Tables) : Type 0 where
  pub starts : capacity ≤ length t.starts
  pub sums : capacity ≤ length t.sums
  pub max_starts : capacity ≤ length t.max_starts
  pub max_values : capacity ≤ length t.max_values
  pub min_starts : capacity ≤ length t.min_starts
  pub min_values : capacity ≤ length t.min_values

-- so it is where check 1 passes
pub long_each : (t : Tables) → tables_long t ≡ true → Long t
unfolding enough
long_each t h =
    let r₁ = and_right (leb capacity (length t.starts)) _ h in
    let r₂ = and_right (leb capacity (length t.sums)) _ r₁ in
    let r₃ = and_right (leb capacity (length t.max_starts)) _ r₂ in
    let r₄ = and_right (leb capacity (length t.max_values)) _ r₃ in
    record {
      starts = leb-true capacity (length t.starts) (and_left _ _ h);
      sums = leb-true capacity (length t.sums) (and_left _ _ r₁);
      max_starts = leb-true capacity (length t.max_starts) (and_left _ _ r₂);
      max_values = leb-true capacity (length t.max_values) (and_left _ _ r₃);
      min_starts = leb-true capacity (length t.min_starts) (and_left _ _ r₄);
      min_values = leb-true capacity (length t.min_values) (and_right (leb capacity (length t.min_starts)) _ r₄);
    }

-- ---- zeroing

module _ {A : Type 0} (nought : A) where
  -- one more, before what follows
  replicate_more : (p : ℕ) (rest : List A) → replicate p nought ++ (nought ∷ rest) ≡ nought ∷ (replicate p nought ++ rest)
  replicate_more zero rest = refl
  replicate_more (suc p) rest = ap (λ (r : List A). nought ∷ r) (replicate_more p rest)

  -- a table with its first p places zeroed and then place p has its first p + 1 zeroed. No proof needs it today; it is a
  -- law that documents named
  pub zero_more : (t now : List A) (p : ℕ) → p < length t → now ≡ replicate p nought ++ drop p t → set now p nought ≡ replicate (p + 1) nought ++ drop (p + 1) t
  zero_more t now p l e =
      rw (e, add-one p, drop-cons t p nought l)
      (set_at (replicate p nought) (get_or t p nought) (drop (suc p) t) nought p (length-replicate p nought) ∙ replicate_more p (drop (suc p) t))

-- a table is long enough where its first 4,096 places are 0
zeroed-long : {A : Type 0} (nought : A) (t : List A) → leb capacity (length (zeroed nought t)) ≡ true
zeroed-long nought t =
    le-leb capacity (length (zeroed nought t))
    (omega (arith, length-append (replicate capacity nought) (drop capacity t), length-replicate capacity nought))

-- so all six are
pub tables-zeroed-long : (t : Tables) → tables_long (zeroed_tables t) ≡ true
unfolding enough
tables-zeroed-long t =
    rw (
      zeroed-long 0 t.starts,
      zeroed-long (pos 0) t.sums,
      zeroed-long 0 t.max_starts,
      zeroed-long (pos 0) t.max_values,
      zeroed-long 0 t.min_starts,
      zeroed-long (pos 0) t.min_values,
    )

-- six tables that are each what they are to be
pub tables_are : {a a' c c' e e' : List ℕ} {b b' d d' f f' : List ℤ} → a ≡ a' → b ≡ b' → c ≡ c' → d ≡ d' → e ≡ e' → f ≡ f'
    → tables a b c d e f ≡ tables a' b' c' d' e' f'
tables_are i j k l m n = rw (i, j, k, l, m, n) refl

-- ---- tables that are kept

-- what does not change is kept
kept_same : {A : Type 0} (t : List A) → KeptBeyond capacity t t
kept_same t = record { as_long = refl; beyond = refl }

-- so are tables
pub tables-same : (t : Tables) → TablesKept t t
tables-same t =
    record {
      starts = kept_same t.starts;
      sums = kept_same t.sums;
      max_starts = kept_same t.max_starts;
      max_values = kept_same t.max_values;
      min_starts = kept_same t.min_starts;
      min_values = kept_same t.min_values;
    }

-- what is kept twice is kept
kept_then : {A : Type 0} {a b c : List A} → KeptBeyond capacity a b → KeptBeyond capacity b c → KeptBeyond capacity a c
kept_then p q = record { as_long = q.as_long ∙ p.as_long; beyond = q.beyond ∙ p.beyond }

-- so are tables
pub tables_then : {a b c : Tables} → TablesKept a b → TablesKept b c → TablesKept a c
tables_then p q =
    record {
      starts = kept_then p.starts q.starts;
      sums = kept_then p.sums q.sums;
      max_starts = kept_then p.max_starts q.max_starts;
      max_values = kept_then p.max_values q.max_values;
      min_starts = kept_then p.min_starts q.min_starts;
      min_values = kept_then p.min_values q.min_values;
    }

-- tables that are kept are as long as they were
pub kept-long : (t t' : Tables) → TablesKept t t' → tables_long t ≡ true → tables_long t' ≡ true
kept-long t t' k e =
    rw (k.starts.as_long, k.sums.as_long, k.max_starts.as_long, k.max_values.as_long, k.min_starts.as_long, k.min_values.as_long) e
