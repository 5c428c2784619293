-- `read_all`: all that the reads brought so far was fed. Assumes nothing.
use Rattle.std.proofs.Common.{◌≡◌, true}
use Rattle.pchelodar.specs.Promises.{ReadsFed, known}
use Rattle.pchelodar.specs.Memories.{held_of, SameMemory}
use Rattle.pchelodar.proofs.Memory.read_all.Given as goal

abbrev pub invariant-loop : goal.invariant-loop
invariant-loop g l =
    let i = l.initial in
    record {
      same : SameMemory i.self l.self;
      told : i.self.said ≡ true → l.self.said ≡ true;
      fed : ReadsFed l.counter (held_of i.self) (held_of l.self)
          (known (g.R.Read.remaining i.input) (g.W.Write.contents i.output))
          (known (g.R.Read.remaining l.input) (g.W.Write.contents l.output));
    }
