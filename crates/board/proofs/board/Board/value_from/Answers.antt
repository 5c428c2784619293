-- `Board::value_from`: kind by kind. Assumes nothing.
use Rattle.std.proofs.Common.{◌∙◌, arith, rules, w32, w64}
use Rattle.std.proofs.Math.Facts.{to_z-of_z}
use Rattle.std.specs.Int.Signed.{le_z}
use Rattle.window.specs.Orders.{ge_z}
use Rattle.board.specs.Aggregates.{maximum_of, minimum_of}
use Rattle.board.specs.Lending.{shared_lists}
use Rattle.board.proofs.Holding.{sums_sorted, deque_sorted, value-sum, value-maximum, value-minimum}
use Rattle.board.proofs.board.Board.value_from.Goals as goal

pub returns-then-kind : goal.returns-then-kind
returns-then-kind c =
    let a = c.args in
    let b = a.self in
    let t = shared_lists a.tables in
    record {
      value = λ h l k le.
          to_z-of_z {w = w64} {z = c.sum_from.result} (search rules)
          ∙ c.sum_from.ensures (sums_sorted h l b t k) k.bounds
          ∙ value-sum h a.from l b t k le a.kind c.if-kind.true;
    }

pub returns-then-kind-2 : goal.returns-then-kind-2
returns-then-kind-2 c =
    let a = c.args in
    let b = a.self in
    let t = shared_lists a.tables in
    record {
      value = λ h l k le.
          to_z-of_z {w = w64} {z = c.from.result} (search rules)
          ∙ c.from.ensures
          ∙ to_z-of_z {w = w32} {z = c.extreme_from.result} (search rules)
          ∙ c.extreme_from.ensures (deque_sorted h l b t k le_z maximum_of t.max_starts t.max_values b.maxima k.maxima)
          ∙ value-maximum h a.from l b t k le a.kind c.if-kind.false (omega arith);
    }

pub returns : goal.returns
returns c =
    let a = c.args in
    let b = a.self in
    let t = shared_lists a.tables in
    record {
      value = λ h l k le.
          to_z-of_z {w = w64} {z = c.from-2.result} (search rules)
          ∙ c.from-2.ensures
          ∙ to_z-of_z {w = w32} {z = c.extreme_from-2.result} (search rules)
          ∙ c.extreme_from-2.ensures (deque_sorted h l b t k ge_z minimum_of t.min_starts t.min_values b.minima k.minima)
          ∙ value-minimum h a.from l b t k le a.kind c.if-kind.false (λ e. omega arith);
    }
