-- `overwrite`: the first 4,096 places are filled. Assumes nothing.
use Rattle.std.proofs.Common.{refl}
use Rattle.std.proofs.lemmas.List.{length-take-le}
use Rattle.deque.specs.Rings.{capacity}
use Rattle.board.proofs.tables.overwrite.Goals as goal

pub returns : goal.returns
returns g c = rw (c.fill.ensures.after c.requires.copied.1, length-take-le capacity c.args.table.now c.requires.long) refl
