-- `withdraw`: of the first i queries those that stay joined anew. Assumes nothing.
use Rattle.registry.proofs.Joining.{Leaving}
use Rattle.registry.proofs.edit.withdraw.Given as goal

abbrev pub invariant-loop-i : goal.invariant-loop-i
invariant-loop-i l = Leaving l.number l.k l.fn.list l.kept l.i l.list
