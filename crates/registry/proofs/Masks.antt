-- The laws of check 2 on the fields of many records at once: an or is below a power of 2 exactly where both numbers
-- are, and x less 1 is exactly where x is 1 to that power.
-- Assumes nothing.
use Rattle.std.proofs.Common.{◌≡◌, ℕ, ◌+◌, ◌-◌, ◌%◌, ◌^◌, ◌<◌, ◌≤◌, Bool, true, false, not, ◌&&◌, ◌||◌, ltb, leb, refl, ap, ◌∙◌, ap₂, arith, le-leb, leb-false, leb-true}
use lib.Bits.{bit_or, or_lt, or_add_and, and_le_l, and_le_r}
use borrow.Author.Tests.{lt-leb}
use Rattle.window.specs.declared.query.Query.{Query}
use Rattle.window.specs.Queries.{number_limit, kind_limit, length_limit}
use Rattle.window.specs.Refusals.{within}
use Rattle.registry.specs.declared.bits.Bits.{Bits}
use Rattle.registry.specs.Fields.{fields_outside, bits_outside, FieldJoined}

-- four tests, two by two
pub or_across : (a b c d : Bool) → ((a || b) || (c || d)) ≡ ((a || c) || (b || d))
or_across true b c d = refl
or_across false true true d = refl
or_across false true false d = refl
or_across false false c d = refl

-- an or reaches a power of 2 where one of the two numbers does
or_reaches : (m a b : ℕ) → leb (2 ^ m) (bit_or a b) ≡ (leb (2 ^ m) a || leb (2 ^ m) b)
or_reaches m a b = go (leb (2 ^ m) a) refl (leb (2 ^ m) b) refl
  where
    left : a ≤ bit_or a b
    left = omega (arith, or_add_and a b, and_le_r a b)

    right : b ≤ bit_or a b
    right = omega (arith, or_add_and a b, and_le_l a b)

    go : (s : Bool) → leb (2 ^ m) a ≡ s → (t : Bool) → leb (2 ^ m) b ≡ t → leb (2 ^ m) (bit_or a b) ≡ (s || t)
    go true e t f = le-leb (2 ^ m) (bit_or a b) (omega (arith, left, leb-true (2 ^ m) a e))
    go false e true f = le-leb (2 ^ m) (bit_or a b) (omega (arith, right, leb-true (2 ^ m) b f))
    go false e false f = lt-leb (2 ^ m) (bit_or a b) (or_lt m a b (leb-false (2 ^ m) a e) (leb-false (2 ^ m) b f))

-- x less 1, at 32 bits, reaches p where x is not 1 to p
less_one_reaches : (p x r : ℕ) → p < 2 ^ 32 → (r + 1) % 2 ^ 32 ≡ x → r < 2 ^ 32 → leb p r ≡ not (within 1 p x)
less_one_reaches p x r h e f = go (leb 1 x) refl (leb x p) refl
  where
    go : (s : Bool) → leb 1 x ≡ s → (t : Bool) → leb x p ≡ t → leb p r ≡ not (s && t)
    go false g t i = le-leb p r (omega (arith, leb-false 1 x g))
    go true g true i = lt-leb p r (omega (arith, leb-true 1 x g, leb-true x p i))
    go true g false i = le-leb p r (omega (arith, leb-true 1 x g, leb-false x p i))

-- the bits with those of x less 1
pub field_joined : (b x : ℕ) → x < 2 ^ 32 → FieldJoined b x (bit_or b ((x + (2 ^ 32 - 1)) % 2 ^ 32))
field_joined b x e m l =
    let r : ℕ = (x + (2 ^ 32 - 1)) % 2 ^ 32 in
    or_reaches m b r ∙ ap (λ (t : Bool). leb (2 ^ m) b || t) (less_one_reaches (2 ^ m) x r l (omega arith) (omega arith))

-- the same of the four fields of a record
pub record_joined : (b r : Bits) (q : Query) → FieldJoined b.number q.number r.number → FieldJoined b.kind q.kind r.kind
    → FieldJoined b.range q.range r.range → FieldJoined b.slide q.slide r.slide → bits_outside r ≡ (bits_outside b || fields_outside q)
unfolding bits_outside fields_outside
record_joined b r q number kind range slide =
    ap₂ ◌||◌ (number 16 (omega arith)) (ap₂ ◌||◌ (kind 2 (omega arith)) (ap₂ ◌||◌ (range 12 (omega arith)) (slide 12 (omega arith))))
    ∙ four (ltb number_limit b.number) (leb kind_limit b.kind) (leb length_limit b.range) (leb length_limit b.slide)
    (not (within 1 (number_limit + 1) q.number)) (not (within 1 kind_limit q.kind)) (not (within 1 length_limit q.range)) (not (within 1 length_limit q.slide))
  where
    four : (a b c d e f g h : Bool) → ((a || e) || ((b || f) || ((c || g) || (d || h)))) ≡ ((a || (b || (c || d))) || (e || (f || (g || h))))
    four a b c d e f g h =
        ap (λ (t : Bool). (a || e) || ((b || f) || t)) (or_across c g d h) ∙ ap (λ (t : Bool). (a || e) || t) (or_across b f (c || d) (g || h)) ∙ or_across a e (b || (c || d)) (f || (g || h))
