-- The invariant holds after every list of calls from a start.
-- Assumes nothing.
use Rattle.std.specs.Prelude.{Ok, Err}
use mathlib.Core.Path.{◌≡◌, refl, sym, subst}
use mathlib.Core.Bool.{Bool, true, false, not, cond}
use mathlib.Core.Option.{Option, none, some}
use mathlib.Core.List.{List, [], ◌∷◌, ◌++◌}
use Prim.Native.Nat.{ℕ, ◌+◌, ◌≤◌, ◌<◌, zero-le, suc-le-suc}
use native.Mathlib.Nat.{le_refl}
use native.Mathlib.Omega.{arith}
use lib.Dec.{ltb, eqb}
use lib.IntN.{ℤ}
use lib.ListN.{length, length-append}
use borrow.Author.Tests.{ltb-true, ltb-false, eqb-false, ne_eqb}
use Rattle.window.specs.declared.query.Query.{Query}
use Rattle.window.specs.Lists.{filter, any, Each}
use Rattle.window.specs.Queries.{Limits, length_limit, count_limit, edge, horizon}
use Rattle.window.specs.Partials.{Partial, spanning}
use Rattle.window.specs.Refusals.{Verdict, first_refusal, register_checks, withdraw_checks, reading_checks, has_number, is_registered}
use Rattle.window.specs.Calls.{Call, start, register, withdraw, reading, totals}
use Rattle.window.specs.Model.{State, count, initial, standing_at, closing_comparisons, close_at, close_where, holds_reading, with_query, after_register, open_if_any, after_withdraw, reading_taken, close_at_edge, after_reading, Stepped, answered, totals_of, judged, new_query, step, step_at, run, reached}
use Rattle.window.specs.Invariant.{Ordered, Short, Tracked, Distinct, Shape, WithinLimits, Invariant}
use Rattle.window.proofs.Lists.{or_neither, not_left, not_right, each_map, each_append, each_filter, length-filter, any_append, any-filter}
use Rattle.window.proofs.Refusals.{Joins, register_passed, reading_passed}
use Rattle.window.proofs.Tiling.{ordered_weaken, ordered_snoc}
use Rattle.window.proofs.Tracking.{shape-ordered, track_all, track_close, track_new, closes_short}

-- ---- each step keeps what does not depend on the open partial

taken-within-limits : (s : State) (v : ℤ) → count s < count_limit → Ordered 0 s.closed (count s) → WithinLimits s → WithinLimits (reading_taken s v)
unfolding reading_taken
taken-within-limits s v room o k =
    record {
      few = k.few;
      distinct = k.distinct;
      limits = k.limits;
      counted = omega (arith, length-append s.readings (v ∷ []), room);
      short = k.short;
    }

closed-within-limits : (s : State) (a : ℕ) → Ordered 0 s.closed a → count s ≤ a + length_limit → WithinLimits s → WithinLimits (close_at s a)
unfolding close_at closing_comparisons standing_at
closed-within-limits s a o l k =
    let p : Partial = spanning a (count s) in
    let h : ℕ = horizon (count s) s.queries in
    record {
      few = k.few;
      distinct = k.distinct;
      limits = k.limits;
      counted = k.counted;
      short = each_append Short s.closed (p ∷ []) k.short (l, tt);
    }

eqb_swap : (a b : ℕ) → eqb a b ≡ false → eqb b a ≡ false
eqb_swap a b e = ne_eqb b a (λ k. eqb-false a b e (sym k))

distinct_snoc : (qs : List Query) (q : Query) → Distinct qs → is_registered q.number qs ≡ false → Distinct (qs ++ (q ∷ []))
distinct_snoc [] q d e = (refl, tt)
distinct_snoc (p ∷ qs) q d e =
    let here : eqb q.number p.number ≡ false = not_left (eqb q.number p.number) (is_registered q.number qs) e in
    let later : is_registered q.number qs ≡ false = not_right (eqb q.number p.number) (is_registered q.number qs) e in (
      any_append (has_number p.number) qs (q ∷ []) d.0
          (or_neither (eqb p.number q.number) false (eqb_swap q.number p.number here) refl),
      distinct_snoc qs q d.1 later,
    )

with_query-within-limits : (s : State) (q : Query) → Joins s.queries q → WithinLimits s → WithinLimits (with_query s q)
unfolding with_query
with_query-within-limits s q j k =
    record {
      few = omega (arith, length-append s.queries (q ∷ []), j.room);
      distinct = distinct_snoc s.queries q k.distinct j.new;
      limits = each_append Limits s.queries (q ∷ []) k.limits (j.limits, tt);
      counted = k.counted;
      short = k.short;
    }

distinct_filter : (keep : Query → Bool) (qs : List Query) → Distinct qs → Distinct (filter keep qs)
distinct_filter keep [] d = tt
distinct_filter keep (q ∷ qs) d = go (keep q) (distinct_filter keep qs d.1)
  where
    go : (b : Bool) → Distinct (filter keep qs) → Distinct (cond b (q ∷ filter keep qs) (filter keep qs))
    go true ih = (any-filter (has_number q.number) keep qs d.0, ih)
    go false ih = ih

withdrawn-within-limits : (s : State) (k : ℕ) → WithinLimits s → WithinLimits (after_withdraw s k)
unfolding after_withdraw
withdrawn-within-limits s k i =
    let keep : Query → Bool = λ (q : Query). not (has_number k q) in
    record {
      few = omega (arith, length-filter keep s.queries, i.few);
      distinct = distinct_filter keep s.queries i.distinct;
      limits = each_filter Limits keep s.queries i.limits;
      counted = i.counted;
      short = i.short;
    }

-- ---- each call keeps the invariant

pub initial-invariant : Invariant initial
initial-invariant =
    record {
      shape = (refl, zero-le);
      within_limits =
          record {
            few = zero-le;
            distinct = tt;
            limits = tt;
            counted = zero-le;
            short = tt;
          };
    }

-- the open partial closes at the count b of s, where its queries were tracked up to n, which is b or the count before
-- it
close_invariant : (s : State) (n a : ℕ) → n ≤ count s → count s ≤ n + 1 → a < count s → Shape (some a) n s.queries s.closed → WithinLimits s → Invariant (close_at s a)
unfolding close_at
close_invariant s n a lo hi l h k =
    let b : ℕ = count s in
    let p : Partial = spanning a b in
    record {
      shape = (
        le_refl b,
        ordered_snoc 0 s.closed a b l h.1,
        h.2,
        each_map (Tracked n s.closed a) (Tracked b (s.closed ++ (p ∷ [])) b) (track_close n s.closed a b l lo hi h.1) s.queries h.3,
      );
      within_limits = closed-within-limits s a h.1 (closes_short n s.closed a b s.queries hi h.0 h.2 k.limits h.3) k;
    }

reading-invariant : (s : State) (v : ℤ) → count s < count_limit → Invariant s → Invariant (after_reading s v)
unfolding after_reading close_at_edge close_where reading_taken
reading-invariant s v room i = go s.open_start refl i.shape
  where
    n : ℕ
    n = count s

    longer : length (s.readings ++ (v ∷ [])) ≡ n + 1
    longer = length-append s.readings (v ∷ [])

    k : WithinLimits (reading_taken s v)
    k = taken-within-limits s v room (shape-ordered s.open_start n s.queries s.closed i.shape) i.within_limits

    closing : (a : ℕ) (b : Bool) → s.open_start ≡ some a → any (edge (count (reading_taken s v))) s.queries ≡ b → Shape (some a) n s.queries s.closed
        → Invariant (cond b (close_at (reading_taken s v) a) (reading_taken s v))
    closing a true e f h = close_invariant (reading_taken s v) n a (omega (arith, longer)) (omega (arith, longer)) (omega (arith, h.0, longer)) h k
    closing a false e f h =
        record { shape = rw (e, longer) (omega (arith, h.0), h.1, h.2, track_all n s.closed a s.queries h.0 (rw longer at f) h.3); within_limits = k }

    go : (o : Option ℕ) → s.open_start ≡ o → Shape o n s.queries s.closed
        → Invariant (close_where (any (edge (count (reading_taken s v))) s.queries) o (reading_taken s v))
    go none e h = record { shape = rw (e, longer) (h.0, ordered_weaken 0 s.closed n (n + 1) (omega arith) h.1); within_limits = k }
    go (some a) e h = closing a (any (edge (count (reading_taken s v))) s.queries) e refl h

-- where the open partial, if there is one, has just begun, a query can join
join_invariant : (s : State) (q : Query) → q.origin ≡ count s → Joins s.queries q
    → Ordered 0 s.closed (count s) → Each (Tracked (count s) s.closed (count s)) s.queries → WithinLimits s
    → Invariant (with_query s q)
unfolding with_query
join_invariant s q e j o t k =
    record {
      shape = (
        le_refl (count s),
        o,
        omega (arith, length-append s.queries (q ∷ [])),
        each_append (Tracked (count s) s.closed (count s)) s.queries (q ∷ []) t (track_new s.closed (count s) q e o, tt),
      );
      within_limits = with_query-within-limits s q j k;
    }

register-invariant : (s : State) (q : Query) → q.origin ≡ count s → Joins s.queries q → Invariant s → Invariant (after_register s q)
unfolding after_register close_where close_at
register-invariant s q e j i = go s.open_start i.shape
  where
    n : ℕ
    n = count s

    closing : (a : ℕ) (b : Bool) → ltb a n ≡ b → Shape (some a) n s.queries s.closed → Invariant (with_query (cond b (close_at s a) s) q)
    closing a true f h =
        let c : Invariant (close_at s a) = close_invariant s n a (le_refl n) (omega arith) (ltb-true a n f) h i.within_limits in
        join_invariant (close_at s a) q e j c.shape.1 c.shape.3 c.within_limits
    closing a false f h =
        let same : a ≡ n = omega (arith, h.0, ltb-false a n f) in
        join_invariant s q e j (subst (λ (x : ℕ). Ordered 0 s.closed x) same h.1) (subst (λ (x : ℕ). Each (Tracked n s.closed x) s.queries) same h.3) i.within_limits

    go : (o : Option ℕ) → Shape o n s.queries s.closed → Invariant (with_query (close_where (holds_reading n o) o s) q)
    go none h = join_invariant s q e j h.1 (rw h.0 tt) i.within_limits
    go (some a) h = closing a (ltb a n) refl h

withdraw-invariant : (s : State) (k : ℕ) → Invariant s → Invariant (after_withdraw s k)
unfolding after_withdraw
withdraw-invariant s k i = record { shape = go s.open_start i.shape; within_limits = withdrawn-within-limits s k i.within_limits }
  where
    keep : Query → Bool
    keep = λ (q : Query). not (has_number k q)

    left : (a : ℕ) (qs : List Query) → Each (Tracked (count s) s.closed a) qs → a ≤ count s → Ordered 0 s.closed a → Shape (open_if_any qs (some a)) (count s) qs s.closed
    left a [] t l o = (refl, ordered_weaken 0 s.closed a (count s) l o)
    left a (q ∷ qs) t l o = (l, o, suc-le-suc zero-le, t)

    go : (o : Option ℕ) → Shape o (count s) s.queries s.closed → Shape (open_if_any (filter keep s.queries) o) (count s) (filter keep s.queries) s.closed
    go none h = rw h.0 (refl, h.1)
    go (some a) h = left a (filter keep s.queries) (each_filter (Tracked (count s) s.closed a) keep s.queries h.3) h.0 h.1

-- a refused call changes nothing, so what holds of the state and of the accepted step holds of the judged one
pub judged_keeps : (P : State → Type 0) (v : Verdict) (s : State) (t : Stepped) → P s → (v ≡ Ok tt → P t.state) → P (judged v s t).state
judged_keeps P (Ok _) s t h f = f refl
judged_keeps P (Err r) s t h f = h

pub step-invariant : (s : State) (c : Call) → Invariant s → Invariant (step s c).state
unfolding step_at answered totals_of
step-invariant s start i = initial-invariant
step-invariant s (register number kind range slide) i =
    judged_keeps Invariant (first_refusal (register_checks s.queries number kind range slide)) s _ i
    (λ e. register-invariant s (new_query s number kind range slide) refl (register_passed s.queries (new_query s number kind range slide) e) i)
step-invariant s (withdraw number) i =
    judged_keeps Invariant (first_refusal (withdraw_checks s.queries number)) s _ i (λ e. withdraw-invariant s number i)
step-invariant s (reading v places) i =
    judged_keeps Invariant (first_refusal (reading_checks (count s) s.queries places)) s _ i
    (λ e. reading-invariant s v (reading_passed (count s) s.queries places e).room i)
step-invariant s totals i = i

run-invariant : (s : State) (cs : List Call) → Invariant s → Invariant (run s cs).state
run-invariant s [] i = i
run-invariant s (c ∷ cs) i = run-invariant (step s c).state cs (step-invariant s c i)

-- the invariant holds after every list of calls on a fresh model
pub reached-invariant : (cs : List Call) → Invariant (reached cs)
reached-invariant cs = run-invariant initial cs initial-invariant
