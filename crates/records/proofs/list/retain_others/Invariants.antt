-- `retain_others`: of the first i records those without the number stand in front. Assumes nothing.
use Rattle.std.proofs.Common.{not}
use Rattle.std.proofs.lemmas.List.Filters.{FiltersInPlace}
use Rattle.window.specs.declared.query.Query.{Query}
use Rattle.window.specs.Refusals.{has_number}
use Rattle.records.proofs.list.retain_others.Given as goal

abbrev pub invariant-loop-i : goal.invariant-loop-i
invariant-loop-i l = FiltersInPlace (λ (q : Query). not (has_number l.number q)) l.initial.records l.records l.kept l.i
