-- `Board::heads`: the three kinds at once. Assumes nothing.
use Rattle.std.proofs.Common.{rules, w32, w64}
use Rattle.std.proofs.Math.Facts.{to_z-of_z}
use Rattle.std.specs.Int.Signed.{le_z}
use Rattle.window.specs.Orders.{ge_z}
use Rattle.board.specs.Aggregates.{maximum_of, minimum_of}
use Rattle.board.specs.Lending.{shared_lists}
use Rattle.board.proofs.Holding.{sums_sorted, deque_sorted, value_heads}
use Rattle.board.proofs.board.Board.heads.Goals as goal

pub returns : goal.returns
returns c =
    let a = c.args in
    let b = a.self in
    let t = shared_lists a.tables in
    let p = c.sum_from in
    let x = c.extreme_from in
    let n = c.extreme_from-2 in
    record {
      values = λ kind. record {
        value = λ h l k le. value_heads h a.horizon l b t k le kind
            (to_z-of_z {w = w64} {z = p.result} (search rules))
            (to_z-of_z {w = w32} {z = x.result} (search rules))
            (to_z-of_z {w = w32} {z = n.result} (search rules))
            (p.ensures (sums_sorted h l b t k) k.bounds)
            (x.ensures (deque_sorted h l b t k le_z maximum_of t.max_starts t.max_values b.maxima k.maxima))
            (n.ensures (deque_sorted h l b t k ge_z minimum_of t.min_starts t.min_values b.minima k.minima));
      };
    }
