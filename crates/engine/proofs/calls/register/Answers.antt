-- `register`: a check refuses it, or what is open closes and the query joins. Assumes nothing.
use Rattle.std.proofs.Common.{ℕ, ◌<◌, refl, arith}
use Rattle.std.proofs.lemmas.Result.{err_from_is_err_and}
use Rattle.window.specs.Calls as calls
use Rattle.window.specs.Queries.{joining}
use Rattle.window.proofs.Refusals.{register_passed}
use Rattle.registry.specs.Records.{record_limit}
use Rattle.registry.proofs.Intact.{fits-ordered, used-count}
use Rattle.registry.proofs.Ordering.{ordered-places}
use Rattle.board.specs.Lending.{lent_lists}
use Rattle.engine.specs.Machine.{Machine, machine, queries_of}
use Rattle.engine.specs.Promises.{Passes}
use Rattle.engine.proofs.Closings.{closed_at}
use Rattle.engine.proofs.Keeping.{open_registered}
use Rattle.engine.proofs.Listing.{long-list, long-tables}
use Rattle.engine.proofs.Soundness.{sound_ready}
use Rattle.engine.proofs.Accepting.{all_pass, accepted-register}
use Rattle.engine.proofs.Refusing.{refused-call}
use Rattle.engine.proofs.calls.register.Goals as goal

pub returns-in_err-horizon-clause-called : goal.returns-in_err-horizon-clause-called
returns-in_err-horizon-clause-called c =
    let a = c.args in
    let q = a.asked in
    let m : Machine = machine a.state a.list.now (lent_lists a.tables.now) in
    let p = err_from_is_err_and c.from_residual.result c.from_residual.ensures.1 in
    rw (p.1, p.2)
    (refused-call (calls.register q.number q.kind q.range q.slide) m _ _ refl refl (rw c.shared.ensures at c.in_err-horizon.ensures.judged) refl)

-- where every check passes there is a place for the query
room : (m : Machine) (number kind range slide : ℕ) → Passes (calls.register number kind range slide) m → m.state.registered < record_limit
room m number kind range slide p =
    omega (arith, (register_passed (queries_of m) (joining number kind range slide m.state.count) p.own).room, used-count m.state.registered m.list)

pub close_open-closed-requires : goal.close_open-closed-requires
close_open-closed-requires c =
    let a = c.args in
    let q = a.asked in
    let m : Machine = machine a.state a.list.now (lent_lists a.tables.now) in
    let p = all_pass (calls.register q.number q.kind q.range q.slide) m _ (rw c.shared.ensures at c.in_ok-horizon.ensures.judged) refl in
    (sound_ready a.state p.intact.state (omega arith), long-tables m p.long)

pub append-requires : goal.append-requires
append-requires c =
    let a = c.args in
    let q = a.asked in
    let m : Machine = machine a.state a.list.now (lent_lists a.tables.now) in
    let p = all_pass (calls.register q.number q.kind q.range q.slide) m _ (rw c.shared.ensures at c.in_ok-horizon.ensures.judged) refl in (
      long-list m p.long,
      room m q.number q.kind q.range q.slide p,
      ordered-places a.state.registered a.list.now (fits-ordered a.state.count a.state.registered a.list.now p.intact.list),
    )

pub with_one_more-requires : goal.with_one_more-requires
with_one_more-requires c =
    let a = c.args in
    let q = a.asked in
    let m : Machine = machine a.state a.list.now (lent_lists a.tables.now) in
    let p = all_pass (calls.register q.number q.kind q.range q.slide) m _ (rw c.shared.ensures at c.in_ok-horizon.ensures.judged) refl in
    omega (arith, room m q.number q.kind q.range q.slide p, open_registered a.state.partial _ _ _ _ _ c.close_open-closed.ensures.closed)

pub returns-clause-called : goal.returns-clause-called
returns-clause-called c =
    let a = c.args in
    let q = a.asked in
    let m : Machine = machine a.state a.list.now (lent_lists a.tables.now) in
    let p = all_pass (calls.register q.number q.kind q.range q.slide) m _ (rw c.shared.ensures at c.in_ok-horizon.ensures.judged) refl in
    accepted-register q.number q.kind q.range q.slide m c.close_open-closed.result _ _ _ p
    (closed_at a.state.partial _ _ _ _ _ _ c.in_ok-horizon.ensures.passed c.close_open-closed.ensures.closed)
    (rw c.at.ensures at c.append.ensures.appended) c.with_one_more.ensures
