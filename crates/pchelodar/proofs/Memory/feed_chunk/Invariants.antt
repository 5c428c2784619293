-- `feed_chunk`: the bytes before the rest were fed. The measure is how many are left. Assumes nothing.
use Rattle.std.proofs.Common.{◌≡◌, true, List, ℕ, ◌++◌, length}
use Rattle.pchelodar.specs.Promises.{FedOn}
use Rattle.pchelodar.specs.Memories.{held_of, SameMemory}
use Rattle.pchelodar.proofs.Memory.feed_chunk.Given as goal

abbrev pub invariant-loop-rest : goal.invariant-loop-rest
invariant-loop-rest g l =
    let i = l.initial in
    record {
      same : SameMemory i.self l.self;
      told : i.self.said ≡ true → l.self.said ≡ true;
      got : l.self.got ≡ i.self.got;
      fed : (done : List ℕ) × (i.rest ≡ done ++ l.rest)
          × FedOn done (held_of i.self) (held_of l.self) (g.W.Write.contents i.output) (g.W.Write.contents l.output);
    }

abbrev pub decreases-loop-rest : goal.decreases-loop-rest
decreases-loop-rest g l = length l.rest
