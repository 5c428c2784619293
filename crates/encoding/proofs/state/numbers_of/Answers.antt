-- `numbers_of`: each number is written, and what is written is read again. Assumes nothing.
use Rattle.std.proofs.Common.{ap, ◌∙◌, subst, arith}
use Rattle.std.proofs.lemmas.Int.{to_z-of_z}
use Rattle.encoding.specs.Written.{numbers_of_state, state_of}
use Rattle.encoding.proofs.States.{WithinAt, state_again}
use Rattle.encoding.proofs.state.numbers_of.Goals as goal

pub returns-clause-written : goal.returns-clause-written
unfolding numbers_of_state
returns-clause-written c = grind (arith, to_z-of_z)

pub returns-clause-read : goal.returns-clause-read
returns-clause-read c =
    let st = c.args.state in
    ap state_of (returns-clause-written c) ∙ state_again st (subst (WithinAt st) c.held_in-held.ensures (search arith))
