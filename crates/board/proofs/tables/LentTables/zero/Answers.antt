-- `LentTables::zero`: the six are written one after the other. Assumes nothing.
use Rattle.board.specs.Lending.{lent_lists}
use Rattle.board.proofs.Lending.{long_each, tables_are}
use Rattle.board.proofs.tables.LentTables.zero.Goals as goal

pub overwrite-requires-clause-long : goal.overwrite-requires-clause-long
overwrite-requires-clause-long c = (long_each (lent_lists c.args.self.now) c.requires).starts

pub overwrite-requires-2-clause-long : goal.overwrite-requires-2-clause-long
overwrite-requires-2-clause-long c = (long_each (lent_lists c.args.self.now) c.requires).sums

pub overwrite-requires-3-clause-long : goal.overwrite-requires-3-clause-long
overwrite-requires-3-clause-long c = (long_each (lent_lists c.args.self.now) c.requires).max_starts

pub overwrite-requires-4-clause-long : goal.overwrite-requires-4-clause-long
overwrite-requires-4-clause-long c = (long_each (lent_lists c.args.self.now) c.requires).max_values

pub overwrite-requires-5-clause-long : goal.overwrite-requires-5-clause-long
overwrite-requires-5-clause-long c = (long_each (lent_lists c.args.self.now) c.requires).min_starts

pub overwrite-requires-6-clause-long : goal.overwrite-requires-6-clause-long
overwrite-requires-6-clause-long c = (long_each (lent_lists c.args.self.now) c.requires).min_values

pub returns-clause-zeroed : goal.returns-clause-zeroed
returns-clause-zeroed c =
    tables_are
    c.overwrite.ensures
    c.overwrite-2.ensures
    c.overwrite-3.ensures
    c.overwrite-4.ensures
    c.overwrite-5.ensures
    c.overwrite-6.ensures
