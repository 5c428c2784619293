-- `open`: what a start leaves shows a session before its first byte. Assumes nothing.
use Rattle.std.proofs.Common.{◌≡◌, refl, ap, ◌∙◌, Ok, Err}
use Rattle.std.specs.Prelude.{Result}
use Rattle.std.specs.Result.{result_unwrap_or}
use Rattle.window.specs.declared.refusal.Refusal.{Refusal}
use Rattle.board.specs.Lending.{lent_lists}
use Rattle.engine.specs.declared.state.State.{State}
use Rattle.engine.specs.Machine.{machine}
use Rattle.engine.specs.Outcomes.{state_after}
use Rattle.session.specs.Promises.{new_line}
use Rattle.session.proofs.Finishing.{started}
use Rattle.session.proofs.stream.open.Goals as goal

-- the state that the code goes on with
after_or : (st : State) (r : Result State Refusal) → result_unwrap_or r st ≡ state_after st r
after_or st (Ok next) = refl
after_or st (Err e) = refl

pub returns-clause-opened : goal.returns-clause-opened
returns-clause-opened c line =
    let fresh = c.fresh-fresh in
    started (machine fresh.result c.args.list.now (lent_lists c.args.tables.now)) (machine (state_after fresh.result c.start.result) c.start.new.list (lent_lists c.start.new.tables))
    _ c.new_line.result line fresh.ensures
    (c.new_line.ensures ∙ ap (λ (st : State). new_line st 0) (c.unwrap_or.ensures ∙ after_or fresh.result c.start.result))
    (c.start.ensures.called fresh.result)
