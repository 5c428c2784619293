-- `due_count`: how many records are due. Assumes nothing.
use Rattle.std.proofs.Common.{ℕ, ◌∙◌, arith, rules}
use borrow.Author.Tests.{tests}
use Rattle.std.proofs.lemmas.Iterator.{YieldsList-from_range}
use Rattle.std.proofs.lemmas.Iterator.Consumers.{YieldsList-from_filter, YieldsList-at, count_from_yields_List}
use Rattle.window.specs.Queries.{due}
use Rattle.registry.specs.Records.{record_at}
use Rattle.registry.proofs.Places.{count_places}
use Rattle.registry.proofs.list.Checked.due_count.Goals as goal

pub returns-clause-due : goal.returns-clause-due
returns-clause-due c =
    let a = c.args in
    let qs = a.self.queries in
    count_from_yields_List c.filter.result _ c.count.ensures.ran
    (YieldsList-from_filter _ (λ (i : ℕ). due a.n (record_at qs.list.now i)) (YieldsList-at c.filter.ensures.source (YieldsList-from_range 0 qs.used qs.used (cc) (omega arith))) c.filter.ensures.closure
    (λ x b q k. search (rules, tests)))
    ∙ count_places (record_at qs.list.now) (due a.n) 0 qs.used
