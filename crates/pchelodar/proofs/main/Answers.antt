-- `main`: the query list has 192 places and the tables 4,096 each. Assumes nothing.
use Rattle.std.proofs.Common.{refl}
use Rattle.board.specs.Tables.{enough}
use Rattle.pchelodar.proofs.main.Goals as goal

pub run-ended-requires-clause-long : goal.run-ended-requires-clause-long
unfolding enough
run-ended-requires-clause-long c = refl
