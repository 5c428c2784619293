-- `whole`: what is left of places and records decides as all of them do. Assumes nothing.
use Rattle.registry.proofs.Passing.{Passing}
use Rattle.registry.proofs.list.Queries.whole.Given as goal

abbrev pub invariant-loop-j : goal.invariant-loop-j
invariant-loop-j l = Passing l.n l.self.used l.self.list.now l.last l.bits l.j
