-- `horizon`: the least of n and the windows' starts. Assumes nothing.
use Rattle.std.proofs.Common.{◌≡◌, ℕ, min, map, ap, ◌∙◌, arith, rules}
use borrow.Author.Tests.{tests}
use Rattle.std.specs.List.{fold, range_with_len}
use Rattle.std.proofs.lemmas.Iterator.{YieldsList-from_range, YieldsList-from_map}
use Rattle.std.proofs.lemmas.Iterator.Consumers.{YieldsList-at, fold_from_yields_List}
use Rattle.window.specs.Queries as Queries
use Rattle.registry.specs.Held.{held}
use Rattle.registry.specs.Records.{record_at}
use Rattle.registry.proofs.Places.{map_places, least_from}
use Rattle.registry.proofs.list.Queries.horizon.Goals as goal

pub returns : goal.returns
returns c =
    let a = c.args in
    let qs = a.self in
    let start : ℕ → ℕ = λ i. Queries.window_start a.n (record_at qs.list.now i) in
    let least : c.fold.result ≡ fold min a.n (map start (range_with_len 0 qs.used)) =
    fold_from_yields_List _ min a.n c.fold.result c.fold.ensures.ran
    (YieldsList-from_map _ start (YieldsList-at c.map.ensures.source (YieldsList-from_range 0 qs.used qs.used (cc) (omega arith))) c.map.ensures.closure (λ x r q k. search (rules, tests)))
    (λ m x b q k. search (rules, tests)) in
    least
    ∙ ap (fold min a.n) (map_places (record_at qs.list.now) (Queries.window_start a.n) 0 qs.used)
    ∙ least_from a.n (held qs) c.requires
