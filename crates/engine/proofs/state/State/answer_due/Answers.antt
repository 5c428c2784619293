-- `State::answer_due`: at a used record that is due its answer comes next, at one that is not those after it are to come.
-- Assumes nothing.
use Rattle.std.proofs.Common.{ℕ, ◌+◌, ◌<◌, ◌≤◌, ◌≡◌, sym, ap, subst, ◌∙◌, Bool, true, false, List, [], ◌∷◌, drop, ℤ, w64, to_z-of_z, arith}
use Rattle.window.specs.declared.query.Query.{Query}
use Rattle.window.specs.Queries.{due, window_start, window_count}
use Rattle.window.specs.Refusals.{due_at}
use Rattle.window.specs.Calls.{Answer}
use Rattle.registry.specs.Records.{record_at, used}
use Rattle.registry.proofs.Scans.{each_at, filter_passed, filter-failed, filter-ended}
use Rattle.board.specs.declared.aggregate.Aggregate.{Aggregate}
use Rattle.board.specs.Lending.{shared_lists}
use Rattle.board.specs.Tables.{Tables}
use Rattle.engine.specs.Answers.{answer_with, value_in, answer_in}
use Rattle.engine.proofs.Places.{AnsweredTo, answered-room, answered-next, answered-all}
use Rattle.engine.proofs.state.State.answer_due.Invariants.{backed}
use Rattle.engine.proofs.state.State.answer_due.Goals as goal
use Rattle.engine.proofs.state.State.answer_due.Goals.{then-due, else-due}

-- the answer that was written is that from what is closed
answer_backed : (cs : List Aggregate) (n : ℕ) (q p : Query) (count : ℕ) (value : ℤ) → p ≡ q → count ≡ window_count n p → value ≡ value_in cs n p → answer_with p count value ≡ answer_in cs n q
unfolding answer_in
answer_backed cs n q p count value r e f = ap (λ (k : ℕ). answer_with p k value) e ∙ ap (answer_with p (window_count n p)) f ∙ ap (answer_in cs n) r

module _ {X : Type 0} (back : X → Query → Answer) (n k : ℕ) (list : List ℕ) (before : List ℤ) where
  -- what is answered, with these due queries to come
  abbrev Answering : List Query → List ℤ → ℕ → Type 0
  Answering to_come now answered = AnsweredTo back (due_at n (used k list)) to_come before now answered

  module _ (i : ℕ) (now : List ℤ) (answered : ℕ) (inside : i < k) where
    -- at a used record that is due, it comes next
    due_now : (q : Query) (t : Bool) → q ≡ record_at list i → t ≡ due n q → t ≡ true → Answering (due_at n (drop i (used k list))) now answered
        → Answering (record_at list i ∷ due_at n (drop (i + 1) (used k list))) now answered
    due_now q t is found so = subst (λ (qs : List Query). Answering qs now answered) (filter_passed k list i inside (due n) (sym (found ∙ ap (due n) is) ∙ so))

    -- at one that is not, those after it are to come
    not_due : (q : Query) (t : Bool) → q ≡ record_at list i → t ≡ due n q → t ≡ false → Answering (due_at n (drop i (used k list))) now answered
        → Answering (due_at n (drop (i + 1) (used k list))) now answered
    not_due q t is found so = subst (λ (qs : List Query). Answering qs now answered) (filter-failed k list i inside (due n) (sym (found ∙ ap (due n) is) ∙ so))

pub put_answer-requires : goal.put_answer-requires
put_answer-requires c =
    let a = c.args in
    let qs : List Query = used a.checked.queries.used a.checked.queries.list.now in
    let t : Tables = shared_lists a.tables in
    answered-room (backed a.self.count qs a.self.board t) (due_at a.self.count qs) a.answers.now c.loop-i.answers c.loop-i.answered c.requires.2
    (record_at a.checked.queries.list.now c.loop-i.i) (due_at a.self.count (drop (c.loop-i.i + 1) qs))
    (due_now (backed a.self.count qs a.self.board t) a.self.count a.checked.queries.used a.checked.queries.list.now a.answers.now c.loop-i.i c.loop-i.answers c.loop-i.answered c.loop-i-test.true
    c.query-q.result c.due.result c.query-q.ensures c.due.ensures c.if-due.true c.loop-i.invariant.1)

pub loop-i-preserved : goal.loop-i-preserved
loop-i-preserved c =
    let a = c.args in
    let l = c.loop-i in
    let qs : List Query = used a.checked.queries.used a.checked.queries.list.now in
    let t : Tables = shared_lists a.tables in
    let back = backed a.self.count qs a.self.board t in
    let inside = c.loop-i-test.true in
    let read = c.query-q.ensures in
    let later : List Query = due_at a.self.count (drop (l.i + 1) qs) in
    elim c.if-due.branch [
      | then-due w ↦ (
        omega arith,
        subst (λ (k : ℕ). AnsweredTo back (due_at a.self.count qs) later a.answers.now c.if-due.answers k) (sym w.answered-is)
            (subst (λ (now : List ℤ). AnsweredTo back (due_at a.self.count qs) later a.answers.now now (l.answered + 1)) (sym w.answers-is)
            (answered-next back (due_at a.self.count qs) a.answers.now l.answers l.answered c.requires.2 (record_at a.checked.queries.list.now l.i) later
            (due_now back a.self.count a.checked.queries.used a.checked.queries.list.now a.answers.now l.i l.answers l.answered inside c.query-q.result c.due.result read c.due.ensures w.if-due.true l.invariant.1)
            _ _
            (λ x. answer_backed x.ledger.closed a.self.count (record_at a.checked.queries.list.now l.i) c.query-q.result _ _ read w.window_count.ensures
            (to_z-of_z {w = w64} {z = w.window_value-value.result} (record { sfits = w.window_value-value.type_inv })
            ∙ w.window_value-value.ensures x.horizon x.ledger x.holds
            (subst (λ (p : Query). x.horizon ≤ window_start a.self.count p) (sym read)
            (each_at a.checked.queries.used a.checked.queries.list.now l.i inside (λ (q : Query). x.horizon ≤ window_start a.self.count q) x.early))))
            w.put_answer.ensures)),
      )
      | else-due w ↦ (
        omega arith,
        subst (λ (k : ℕ). AnsweredTo back (due_at a.self.count qs) later a.answers.now c.if-due.answers k) (sym w.answered-is)
            (subst (λ (now : List ℤ). AnsweredTo back (due_at a.self.count qs) later a.answers.now now l.answered) (sym w.answers-is)
            (not_due back a.self.count a.checked.queries.used a.checked.queries.list.now a.answers.now l.i l.answers l.answered inside c.query-q.result c.due.result read c.due.ensures w.if-due.false l.invariant.1)),
      )
    ]

-- no query is to come
ended : (c : goal.After-loop-i) → AnsweredTo (backed c.args.self.count (used c.args.checked.queries.used c.args.checked.queries.list.now) c.args.self.board (shared_lists c.args.tables))
    (due_at c.args.self.count (used c.args.checked.queries.used c.args.checked.queries.list.now)) [] c.args.answers.now c.loop-i.answers c.loop-i.answered
ended c =
    let a = c.args in
    subst (λ (left : List Query). AnsweredTo (backed a.self.count (used a.checked.queries.used a.checked.queries.list.now) a.self.board (shared_lists a.tables))
    (due_at a.self.count (used a.checked.queries.used a.checked.queries.list.now)) left a.answers.now c.loop-i.answers c.loop-i.answered)
    (filter-ended a.checked.queries.used a.checked.queries.list.now c.loop-i.i c.loop-i-test.false (due a.self.count)) c.loop-i.invariant.1

pub returns-clause-count : goal.returns-clause-count
returns-clause-count c = (answered-all _ _ _ _ _ (ended c)).0

pub returns-clause-places : goal.returns-clause-places
returns-clause-places c =
    let e = ended c in
    (e.given, e.number, e.written, (answered-all _ _ _ _ _ e).1)
