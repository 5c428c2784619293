-- `start`: check 1 refuses it, or tables and query list are zeroed and the state is fresh. Assumes nothing.
use Rattle.std.proofs.Common.{sym, ap, ◌∙◌}
use Rattle.board.specs.Lending.{lent_lists}
use Rattle.board.specs.Tables.{tables_long}
use Rattle.engine.specs.Machine.{machine}
use Rattle.engine.proofs.Judging.{short_tables, short_list, long_both}
use Rattle.engine.proofs.Accepting.{accepted-start}
use Rattle.engine.proofs.Refusing.{refused-start}
use Rattle.engine.proofs.calls.start.Goals as goal
use Rattle.engine.proofs.calls.start.Goals.{then-list-lt-LIST_PLACES-via-then-list-lt-LIST_PLACES, then-list-lt-LIST_PLACES-via-else-list-lt-LIST_PLACES+then-not-are_long}

pub returns-then-list-lt-LIST_PLACES-clause-called : goal.returns-then-list-lt-LIST_PLACES-clause-called
returns-then-list-lt-LIST_PLACES-clause-called c st =
    let l = c.args.list.now in
    let t = lent_lists c.args.tables.now in
    refused-start (machine st l t)
    (elim c.then-list-lt-LIST_PLACES.branch [
      | then-list-lt-LIST_PLACES-via-then-list-lt-LIST_PLACES w ↦ short_list st l t w.if-list-lt-LIST_PLACES.true
      | then-list-lt-LIST_PLACES-via-else-list-lt-LIST_PLACES+then-not-are_long w ↦
          short_tables st l t (ap tables_long (sym w.shared.ensures) ∙ sym w.are_long.ensures ∙ w.if-not-are_long.true)
    ])

pub returns-clause-called : goal.returns-clause-called
returns-clause-called c st =
    let l = c.args.list.now in
    let t = lent_lists c.args.tables.now in
    accepted-start (machine st l t) c.fresh.result _ _
    (long_both st l t (ap tables_long (sym c.shared.ensures) ∙ sym c.are_long.ensures ∙ c.if-not-are_long.false) c.if-list-lt-LIST_PLACES.false)
    c.fresh.ensures c.clear.ensures c.zero.ensures.zeroed
