-- `find`: the first place whose record has the number. Assumes nothing.
use Rattle.std.proofs.Common.{ℕ, ◌∙◌, arith, rules}
use borrow.Author.Tests.{tests}
use Rattle.std.proofs.lemmas.Iterator.{YieldsList-from_range}
use Rattle.std.proofs.lemmas.Iterator.Search.{position_from_yields_List}
use Rattle.window.specs.Refusals.{has_number}
use Rattle.registry.specs.Records.{record_at}
use Rattle.registry.proofs.Places.{position_places}
use Rattle.registry.proofs.list.Queries.find.Goals as goal

pub returns : goal.returns
returns c =
    let a = c.args in
    let qs = a.self in
    position_from_yields_List (λ (i : ℕ). has_number a.number (record_at qs.list.now i)) _ _ _ c.position.ensures.ran (YieldsList-from_range 0 qs.used qs.used (cc) (omega arith))
    (λ x b q k. search (rules, tests))
    ∙ position_places (record_at qs.list.now) (has_number a.number) 0 qs.used
