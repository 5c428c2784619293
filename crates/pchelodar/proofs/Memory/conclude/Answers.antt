-- `conclude`: the session is finished, and what that printed is written. Assumes nothing.
use Rattle.pchelodar.proofs.Composing.{concludes}
use Rattle.pchelodar.proofs.Memory.conclude.Goals as goal

pub returns-clause-concluded : goal.returns-clause-concluded
returns-clause-concluded g c = concludes _ _ c.args.read _ c.write.ensures.held c.write.ensures.out c.finish-at.ensures.finished c.write.ensures.wrote
