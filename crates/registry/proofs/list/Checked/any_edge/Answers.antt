-- `any_edge`: a test of the record at each place. Assumes nothing.
use Rattle.std.proofs.Common.{ℕ, ◌∙◌, arith, rules}
use borrow.Author.Tests.{tests}
use Rattle.std.proofs.lemmas.Iterator.{YieldsList-from_range}
use Rattle.std.proofs.lemmas.Iterator.Search.{any_from_yields_List}
use Rattle.window.specs.Queries.{edge}
use Rattle.registry.specs.Records.{record_at}
use Rattle.registry.proofs.Places.{any_places}
use Rattle.registry.proofs.list.Checked.any_edge.Goals as goal

pub returns : goal.returns
returns c =
    let a = c.args in
    let qs = a.self.queries in
    any_from_yields_List (λ (i : ℕ). edge a.m (record_at qs.list.now i)) _ _ _ c.any.ensures.ran (YieldsList-from_range 0 qs.used qs.used (cc) (omega arith))
    (λ x b q k. search (rules, tests))
    ∙ any_places (record_at qs.list.now) (edge a.m) 0 qs.used
