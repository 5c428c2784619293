-- A run's memory is where it was.
-- Assumes nothing.
use Rattle.std.proofs.Common.{refl, ◌∙◌}
use Rattle.session.proofs.Feeding.{slices_same, slices_then}
use Rattle.pchelodar.specs.declared.Memory.{Memory}
use Rattle.pchelodar.specs.Memories.{SameMemory}

pub memory_same : (m : Memory) → SameMemory m m
memory_same m = record { list = refl; line = refl; tables = slices_same m.tables; out = refl }

pub memory_then : {m m' m'' : Memory} → SameMemory m m' → SameMemory m' m'' → SameMemory m m''
memory_then p q =
    record { list = q.list ∙ p.list; line = q.line ∙ p.line; tables = slices_then p.tables q.tables; out = q.out ∙ p.out }
