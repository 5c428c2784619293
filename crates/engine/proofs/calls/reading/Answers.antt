-- `reading`: a check refuses it, or it is taken, what is open closes at an edge, and the due queries are answered.
-- Assumes nothing.
use Rattle.std.proofs.Common.{◌≡◌, refl, sym, ap, ◌∙◌, subst, ℕ, ◌*◌, ◌≤◌, ℤ, List, length, Err, to_z-of_z}
use Rattle.std.proofs.lemmas.Result.{err_from_is_err_and}
use Rattle.window.specs.declared.query.Query.{Query}
use Rattle.window.specs.Lists.{any, Each}
use Rattle.window.specs.Queries.{edge, horizon}
use Rattle.window.specs.Refusals.{answer_places, due_at}
use Rattle.window.specs.Calls as calls
use Rattle.window.proofs.Refusals.{reading_passed}
use Rattle.registry.proofs.Intact.{fits_origins}
use Rattle.board.specs.Lending.{lent_lists}
use Rattle.board.specs.Tables.{tables_long}
use Rattle.engine.specs.Machine.{Machine, machine, queries_of}
use Rattle.engine.specs.States.{with_reading}
use Rattle.engine.proofs.Judging.{held_is}
use Rattle.engine.proofs.Taking.{taken_ready, taken-count, taken_origins, taken-closed, open_left, due_fit, answers_for}
use Rattle.engine.proofs.Listing.{long-tables}
use Rattle.engine.proofs.Accepting.{all_pass, uncut-taken, accepted-reading}
use Rattle.engine.proofs.Keeping.{closed-long}
use Rattle.engine.proofs.Closings.{closed_there, closed_at}
use Rattle.engine.proofs.Refusing.{refused-reading}
use Rattle.engine.proofs.calls.reading.Goals as goal

pub returns-in_err-checked-clause-called : goal.returns-in_err-checked-clause-called
returns-in_err-checked-clause-called c =
    let a = c.args in
    let m : Machine = machine a.state a.list.now (lent_lists a.tables.now) in
    let p = err_from_is_err_and c.from_residual.result c.from_residual.ensures.1 in
    refused-reading a.value a.answers.now m _ _ _ (rw c.shared.ensures at c.in_err-checked.ensures.judged) refl (p.1 ∙ ap Err p.2)

pub with_reading-taken-requires : goal.with_reading-taken-requires
with_reading-taken-requires c =
    let a = c.args in
    let m : Machine = machine a.state a.list.now (lent_lists a.tables.now) in
    let p = all_pass (calls.reading a.value (length a.answers.now)) m _ (rw c.shared.ensures at c.in_ok-checked.ensures.judged) refl in
    (p.intact.state, (reading_passed a.state.count (queries_of m) (length a.answers.now) p.own).room)

pub returns-then-not-any_edge-clause-called : goal.returns-then-not-any_edge-clause-called
returns-then-not-any_edge-clause-called c =
    let a = c.args in
    let m : Machine = machine a.state a.list.now (lent_lists a.tables.now) in
    let p = all_pass (calls.reading a.value (length a.answers.now)) m _ (rw c.shared.ensures at c.in_ok-checked.ensures.judged) refl in
    let qs = held_is _ _ _ c.in_ok-checked.ensures.passed in
    let w = c.with_reading-taken in
    let is : w.result ≡ with_reading a.value a.state = w.ensures ∙ ap (λ (z : ℤ). with_reading z a.state) (to_z-of_z c.ranges.value) in
    let n = taken-count a.value a.state w.result is in
    accepted-reading a.value a.answers.now _ m _ _ _ _ p c.ranges.value
    (uncut-taken a.value a.answers.now m w.result is
    (ap (λ (k : ℕ). any (edge k) (queries_of m)) (sym n) ∙ ap (any (edge w.result.count)) (sym qs) ∙ sym c.any_edge.ensures ∙ c.if-not-any_edge.true))

pub horizon-horizon-requires : goal.horizon-horizon-requires
horizon-horizon-requires c =
    let a = c.args in
    let m : Machine = machine a.state a.list.now (lent_lists a.tables.now) in
    let p = all_pass (calls.reading a.value (length a.answers.now)) m _ (rw c.shared.ensures at c.in_ok-checked.ensures.judged) refl in
    let qs = held_is _ _ _ c.in_ok-checked.ensures.passed in
    let w = c.with_reading-taken in
    let is : w.result ≡ with_reading a.value a.state = w.ensures ∙ ap (λ (z : ℤ). with_reading z a.state) (to_z-of_z c.ranges.value) in
    subst (Each (λ (q : Query). q.origin ≤ w.result.count)) (sym qs)
    (taken_origins a.value a.state w.result is (queries_of m) (fits_origins a.state.count a.state.registered a.list.now p.intact.list))

pub close_open-closed-requires : goal.close_open-closed-requires
close_open-closed-requires c =
    let a = c.args in
    let m : Machine = machine a.state a.list.now (lent_lists a.tables.now) in
    let p = all_pass (calls.reading a.value (length a.answers.now)) m _ (rw c.shared.ensures at c.in_ok-checked.ensures.judged) refl in
    let counts = reading_passed a.state.count (queries_of m) (length a.answers.now) p.own in
    let w = c.with_reading-taken in
    let is : w.result ≡ with_reading a.value a.state = w.ensures ∙ ap (λ (z : ℤ). with_reading z a.state) (to_z-of_z c.ranges.value) in
    (taken_ready a.value a.state w.result is p.intact.state counts.room c.ranges.value, long-tables m p.long)

pub answer_due-answers-requires : goal.answer_due-answers-requires
answer_due-answers-requires c =
    let a = c.args in
    let m : Machine = machine a.state a.list.now (lent_lists a.tables.now) in
    let p = all_pass (calls.reading a.value (length a.answers.now)) m _ (rw c.shared.ensures at c.in_ok-checked.ensures.judged) refl in
    let counts = reading_passed a.state.count (queries_of m) (length a.answers.now) p.own in
    let qs = held_is _ _ _ c.in_ok-checked.ensures.passed in
    let w = c.with_reading-taken in
    let is : w.result ≡ with_reading a.value a.state = w.ensures ∙ ap (λ (z : ℤ). with_reading z a.state) (to_z-of_z c.ranges.value) in
    let ready = taken_ready a.value a.state w.result is p.intact.state counts.room c.ranges.value in
    let d = c.close_open-closed in
    let left = open_left w.result.partial _ _ _ _ _ ready d.ensures.closed in (
      left.usable,
      subst (Each (λ (q : Query). q.origin ≤ d.result.count)) (sym qs)
          (subst (λ (k : ℕ). Each (λ (q : Query). q.origin ≤ k) (queries_of m)) (sym left.count) (taken_origins a.value a.state w.result is (queries_of m) (fits_origins a.state.count a.state.registered a.list.now p.intact.list))),
      subst (λ (x : List Query). answer_places * length (due_at d.result.count x) ≤ length a.answers.now) (sym qs)
          (due_fit a.state.count _ _ (queries_of m) (left.count ∙ taken-count a.value a.state w.result is) counts.answers_fit),
      ap tables_long c.shared-2.ensures ∙ (closed-long w.result.partial _ _ _ _ _ d.ensures.closed (long-tables m p.long)),
    )

pub returns-clause-called : goal.returns-clause-called
returns-clause-called c =
    let a = c.args in
    let m : Machine = machine a.state a.list.now (lent_lists a.tables.now) in
    let p = all_pass (calls.reading a.value (length a.answers.now)) m _ (rw c.shared.ensures at c.in_ok-checked.ensures.judged) refl in
    let qs = held_is _ _ _ c.in_ok-checked.ensures.passed in
    let w = c.with_reading-taken in
    let is : w.result ≡ with_reading a.value a.state = w.ensures ∙ ap (λ (z : ℤ). with_reading z a.state) (to_z-of_z c.ranges.value) in
    let d = c.close_open-closed in
    let found = c.any_edge.ensures ∙ ap (any (edge w.result.count)) qs in
    let level = c.horizon-horizon.ensures ∙ ap (horizon w.result.count) qs in
    let f = c.answer_due-answers.ensures.places in
    accepted-reading a.value a.answers.now _ m _ _ _ _ p c.ranges.value
    (record {
      closed = taken-closed a.value a.state w.result is (queries_of m) _ _ _
          (closed_there _ _ _ _ _ found _ _ c.if-not-any_edge.false (closed_at w.result.partial _ _ _ _ _ _ level d.ensures.closed));
      number = f.1;
      written = f.2;
      answers = answers_for d.result.count _ _ _ _ qs c.shared-2.ensures f.3;
    })
