-- `clear`: what was filled is 0. Assumes nothing.
use Rattle.std.proofs.Common.{arith, rules}
use Rattle.registry.proofs.Clearing.{zeros_cleared}
use Rattle.registry.proofs.edit.clear.Goals as goal

pub returns : goal.returns
returns c =
    let a = c.args in
    zeros_cleared a.k a.list.now (omega arith) (omega arith) _ (omega arith) c.fill.new.self c.fill-2.new.self (c.fill.ensures.after (λ y e. search rules)) (c.fill-2.ensures.after (λ y e. search rules))
