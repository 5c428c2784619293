-- `start`: the list or a table is too short, or the first 32 records become unused. Assumes nothing.
use Rattle.std.proofs.Common.{List, take, ap, ◌∙◌}
use Rattle.std.proofs.lemmas.Result.{err_from_is_err_and}
use Rattle.window.specs.declared.query.Query.{Query}
use Rattle.registry.specs.Records.{record_limit}
use Rattle.records.specs.LentList.{overwritten}
use Rattle.lent.proofs.Lending.{start-refused, start-lent}
use Rattle.lent.proofs.calls.start.Goals as goal

pub returns-in_err-next-clause-called : goal.returns-in_err-next-clause-called
returns-in_err-next-clause-called c st =
    let h = c.in_ok-numbers.ensures in
    let p = err_from_is_err_and c.from_residual-in_err-next.result c.from_residual-in_err-next.ensures.1 in
    rw (p.1, p.2) (start-refused st _ _ h.0 0 _ _ _ (rw h.1 at (c.in_err-next.ensures.called st)))

pub returns-clause-called : goal.returns-clause-called
returns-clause-called c st =
    let h = c.in_ok-numbers.ensures in
    start-lent st _ _ h.0 _ _ _ _ _ _ 0 (rw h.1 at (c.in_ok-next.ensures.called st))
    (c.store.ensures ∙ ap (λ (ys : List Query). overwritten (take record_limit ys) c.args.queries.now) c.none.ensures)
