-- Laws of the open partial: what its sum fits.
-- Assumes nothing.
use Prim.Native.Nat.{ℕ, ◌-◌, ◌*◌}
use mathlib.Core.Path.{◌≡◌, subst}
use native.Mathlib.Omega.{arith}
use Rattle.ints.specs.Sizes.{Small}
use Rattle.ints.proofs.Sizes.{small-more}
use Rattle.board.specs.declared.aggregate.Aggregate.{Aggregate}
use Rattle.engine.specs.declared.partial.Open.{Open}
use Rattle.engine.specs.declared.partial.Open.TheVariants.{Holding}
use Rattle.engine.specs.Open.{reading_size, size_limit, FitsAggregate, FitsOpen}

-- the sum of an open partial that check 2 lets pass
pub holding_small : (n closed : ℕ) (o : Open) (a : Aggregate) → o ≡ Holding a → FitsOpen n closed o → Small size_limit a.sum
holding_small n closed o a e f =
    let f' : FitsAggregate n closed a = subst (FitsOpen n closed) e f in
    small-more ((n - a.start) * reading_size) size_limit a.sum (omega arith) f'.small
