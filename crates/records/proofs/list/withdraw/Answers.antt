-- `list::withdraw`: the records that are left stand in front, and unused ones behind them. Assumes nothing.
use Rattle.std.proofs.Common.{◌≡◌, ◌-◌, true, not, replicate, sym, ap, ap₂, ◌∙◌, arith, rules, is_some, length-append, length-take, length-drop}
use Rattle.window.specs.declared.query.Query.{Query}
use Rattle.window.specs.Refusals.{is_registered}
use Rattle.registry.specs.Records.{unused}
use Rattle.records.specs.LentList.{used_of}
use Rattle.records.proofs.Editing.{registered_place}
use Rattle.records.proofs.Leaving.{withdrawn_parts}
use Rattle.records.proofs.list.withdraw.Goals as goal

pub returns : goal.returns
returns c =
    let a = c.args in
    let there : is_registered a.number (used_of a.count a.queries.now) ≡ true =
    registered_place a.number (used_of a.count a.queries.now) ∙ ap is_some (sym c.find.ensures) ∙ c.is_none.ensures ∙ ap not c.if-is_none.false in
    let kept = c.retain_others-kept in
    let filled : c.fill.new.self ≡ replicate (c.capped-places.result - kept.result) unused = c.fill.ensures.after (λ y e. e) ∙ ap₂ replicate (omega (arith, length-take {A = Query}, length-drop {A = Query}, length-append {A = Query})) (search rules) in
    rw filled (withdrawn_parts a.number a.count a.queries.now there c.fitting-used.result c.capped-places.result kept.result c.fitting-used.ensures c.capped-places.ensures kept.new.records kept.auto.records kept.ensures.few kept.ensures.retained)
