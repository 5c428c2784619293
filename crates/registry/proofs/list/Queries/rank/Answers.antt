-- `rank`: the places before the first whose number is not less are counted. Assumes nothing.
use Rattle.std.proofs.Common.{◌≡◌, ℕ, ◌+◌, ◌-◌, ◌<◌, ltb, Bool, length, length-take, take, drop, sym, ap, ◌∙◌, arith, rules}
use borrow.Author.Tests.{tests}
use Rattle.std.specs.List.{prefix_len}
use Rattle.std.specs.Slice.Iter.{iter_rest}
use Rattle.std.proofs.lemmas.Iterator.{YieldsList-from_slice}
use Rattle.std.proofs.lemmas.Iterator.Adapters.{serves_from_places}
use Rattle.std.proofs.lemmas.Iterator.Consumers.{YieldsList-at, count_from_yields_List}
use Rattle.std.proofs.lemmas.Iterator.Search.{YieldsList-from_take_while}
use Rattle.registry.specs.Records.{order_at, number_at, order}
use Rattle.registry.proofs.Ordering.{place_at, rank_counts}
use Rattle.std.proofs.lemmas.List.Folds.{length-prefix_len}
use Rattle.registry.proofs.list.Queries.rank.Goals as goal

same_count : (k : ℕ) → order_at + k - order_at ≡ k
same_count k = omega arith

pub count-requires-clause-can : goal.count-requires-clause-can
count-requires-clause-can c =
    let a = c.args in
    let places : iter_rest c.iter.result ≡ order a.self.used a.self.list.now = c.iter.ensures.rest ∙ ap (λ (n : ℕ). take n (drop order_at a.self.list.now)) (same_count a.self.used) in (
      tt,
      serves_from_places (YieldsList-at c.take_while.ensures.source (YieldsList-from_slice (order a.self.used a.self.list.now) places)) (λ x q h. search (rules, tests)) (λ x i h e. let inside : x.now < a.self.used = place_at a.self.used i x.now (order a.self.used a.self.list.now) h e c.requires in λ y is _ _ _ _ _ _ _. rw is (omega arith)),
    )

pub returns : goal.returns
returns c =
    let a = c.args in
    let places : iter_rest c.iter.result ≡ order a.self.used a.self.list.now = c.iter.ensures.rest ∙ ap (λ (n : ℕ). take n (drop order_at a.self.list.now)) (same_count a.self.used) in
    let less : ℕ → Bool = λ p. ltb (number_at a.self.list.now p) a.number in
    let counted : c.count.result ≡ length (take (prefix_len less (order a.self.used a.self.list.now)) (order a.self.used a.self.list.now)) =
    count_from_yields_List c.take_while.result _ c.count.ensures.ran
    (YieldsList-from_take_while _ less (YieldsList-at c.take_while.ensures.source (YieldsList-from_slice (order a.self.used a.self.list.now) places)) c.take_while.ensures.closure c.take_while.ensures.done
    (λ x b q h. search (rules, tests))) in (
      counted ∙ length-prefix_len less (order a.self.used a.self.list.now) ∙ sym (rank_counts a.number a.self.list.now (order a.self.used a.self.list.now)),
      omega (arith, counted, length-take (prefix_len less (order a.self.used a.self.list.now)) (order a.self.used a.self.list.now), length-take a.self.used (drop order_at a.self.list.now)),
    )
