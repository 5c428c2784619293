-- `store_state`: what is written is read again. Assumes nothing.
use Rattle.std.proofs.Common.{ap, ◌∙◌, length, drop}
use Rattle.std.proofs.Math.Seq.{take_at}
use Rattle.encoding.specs.Written.{state_numbers}
use Rattle.encoding.proofs.States.{numbers_eighteen}
use Rattle.encoding.proofs.state.store_state.Goals as goal

pub returns-clause-read : goal.returns-clause-read
returns-clause-read c =
    let n = c.numbers_of in
    rw (take_at n.result (drop state_numbers c.args.words.now) state_numbers (ap length n.ensures.written ∙ numbers_eighteen c.args.state)) n.ensures.read
