-- `State::window_value`: the count of the window, or the board's value. Assumes nothing.
use Rattle.std.proofs.Common.{◌≡◌, sym, ap, ◌∙◌, subst, ℕ, ◌≤◌, List, w64, pos, to_z-of_z, eq-eqb, ne_eqb}
use Rattle.window.specs.declared.query.Query.{Query}
use Rattle.window.specs.Queries.{count_kind, window_start, window_count}
use Rattle.board.specs.declared.aggregate.Aggregate.{Aggregate}
use Rattle.board.specs.Aggregates.{closed_from}
use Rattle.board.specs.Ledgers.{value_over}
use Rattle.engine.specs.Answers.{value_in}
use Rattle.engine.proofs.state.State.window_value.Goals as goal

-- the value of a count, and of any other kind
value_count : (cs : List Aggregate) (n : ℕ) (q : Query) → q.kind ≡ count_kind → pos (window_count n q) ≡ value_in cs n q
unfolding value_in
value_count cs n q e = rw (eq-eqb q.kind count_kind e)

value_other : (cs : List Aggregate) (n : ℕ) (q : Query) (from : ℕ) → from ≡ window_start n q → (q.kind ≡ count_kind → ⊥) → value_over q.kind (closed_from from cs) ≡ value_in cs n q
unfolding value_in
value_other cs n q from w e = rw (ne_eqb q.kind count_kind e, w)

pub returns-then-q : goal.returns-then-q
returns-then-q c h l k le =
    to_z-of_z {w = w64} {z = c.from.result} (record { sfits = c.from.type_inv })
    ∙ c.from.ensures
    ∙ ap pos c.window_count.ensures
    ∙ value_count l.closed c.args.self.count c.args.q c.if-q.true

pub returns-then-from-horizon : goal.returns-then-from-horizon
returns-then-from-horizon c h l k le =
    let a = c.args in
    let w = c.window_start-from.ensures in
    let from = c.if-from-horizon.true in
    to_z-of_z {w = w64} {z = c.value.result} (record { sfits = c.value.type_inv })
    ∙ c.value.ensures
    ∙ (c.requires.2.values a.q.kind).value h l k (subst (λ (x : ℕ). h ≤ x) (sym w ∙ from) le)
    ∙ value_other l.closed a.self.count a.q a.horizon (sym from ∙ w) c.if-q.false

pub returns : goal.returns
returns c h l k le =
    let a = c.args in
    let w = c.window_start-from.ensures in
    to_z-of_z {w = w64} {z = c.value_from.result} (record { sfits = c.value_from.type_inv })
    ∙ c.value_from.ensures.value h l k (subst (λ (x : ℕ). h ≤ x) (sym w) le)
    ∙ value_other l.closed a.self.count a.q c.window_start-from.result w c.if-q.false
