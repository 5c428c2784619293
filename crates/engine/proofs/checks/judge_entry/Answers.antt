-- `judge_entry`: checks 1 and 2, in this order. Assumes nothing.
use Rattle.std.proofs.Common.{sym, ◌∙◌, true≢false}
use Rattle.std.proofs.lemmas.Result.{err_from_is_err_and}
use Rattle.board.specs.Lending.{shared_lists}
use Rattle.engine.specs.States.{is_short, is_damaged, is_judged}
use Rattle.engine.proofs.Judging.{short_tables, long_both, list_refused}
use Rattle.engine.proofs.checks.judge_entry.Goals as goal

pub returns-then-not-are_long-clause-judged : goal.returns-then-not-are_long-clause-judged
returns-then-not-are_long-clause-judged c =
    let a = c.args in
    is_short (short_tables a.state a.list.now (shared_lists a.tables) (sym c.are_long.ensures ∙ c.if-not-are_long.true))

pub returns-in_err-checked-clause-judged : goal.returns-in_err-checked-clause-judged
returns-in_err-checked-clause-judged c =
    let a = c.args in
    let p = err_from_is_err_and c.from_residual.result c.from_residual.ensures.1 in
    rw (p.1, p.2)
    (list_refused a.state a.list.now (shared_lists a.tables) (sym c.are_long.ensures ∙ c.if-not-are_long.false) _ c.in_err-checked.ensures)

pub returns-then-not-fits-clause-judged : goal.returns-then-not-fits-clause-judged
returns-then-not-fits-clause-judged c =
    let a = c.args in
    is_damaged
    (long_both a.state a.list.now (shared_lists a.tables) (sym c.are_long.ensures ∙ c.if-not-are_long.false) c.in_ok-checked.ensures.0)
    (λ i. true≢false (sym (c.fits.ensures.1 i.state) ∙ c.if-not-fits.true))

pub returns-clause-judged : goal.returns-clause-judged
returns-clause-judged c =
    let a = c.args in
    is_judged
    (long_both a.state a.list.now (shared_lists a.tables) (sym c.are_long.ensures ∙ c.if-not-are_long.false) c.in_ok-checked.ensures.0)
    (record { list = c.in_ok-checked.ensures.1; state = c.fits.ensures.0 c.if-not-fits.false })
