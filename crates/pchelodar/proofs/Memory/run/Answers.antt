-- `run`: opened, fed all input and finished, in this order. Assumes nothing.
use Rattle.std.proofs.Common.{arith, refl}
use Rattle.pchelodar.proofs.Composing.{heard_by, ended_by, ran_by, written_by}
use Rattle.pchelodar.proofs.Memory.run.Goals as goal

pub returns-clause-ended : goal.returns-clause-ended
returns-clause-ended g c =
    ended_by _ _ _ _ _ _ _ _ c.conclude.new.self.got _ _ _ (c.open-self.ensures.opened c.args.self.now.line.now) c.read_all-read.ensures.read (rw c.conclude.ensures.got c.read_all-read.ensures.heard) c.conclude.ensures.ends c.conclude.ensures.concluded
    c.conclude.ensures.unwritten (c.conclude.ensures.told (c.read_all-read.ensures.told refl))

pub returns-clause-heard : goal.returns-clause-heard
returns-clause-heard g c =
    heard_by _ _ _ _ _ _ _ _ c.conclude.new.self.got c.conclude.ensures.ends c.conclude.ensures.concluded (rw c.conclude.ensures.got c.read_all-read.ensures.heard)

pub returns-clause-ran : goal.returns-clause-ran
returns-clause-ran g c =
    ran_by _ _ _ _ _ _ _ _ _ _ c.requires.long c.requires.line (c.open-self.ensures.opened c.args.self.now.line.now) (omega (arith, c.read_all-read.new.self.room)) c.read_all-read.ensures.read
    c.conclude.ensures.ends c.conclude.ensures.still c.conclude.ensures.concluded

pub returns-clause-written : goal.returns-clause-written
returns-clause-written g c =
    written_by _ _ _ _ _ _ _ _ _ _ c.requires.long c.requires.line (c.open-self.ensures.opened c.args.self.now.line.now) (omega (arith, c.read_all-read.new.self.room)) c.read_all-read.ensures.read
    c.conclude.ensures.ends c.conclude.ensures.concluded
