-- `whole`: each answer is that of the tests that led there. Assumes nothing.
use Rattle.std.proofs.Common.{◌∙◌, arith}
use borrow.Author.Tests.{lt-leb}
use Rattle.window.specs.Queries.{number_limit}
use Rattle.registry.proofs.Passing.{passing_start, passing_outside, passing_falls, passing_later, passing_next, passing_above, passing_done}
use Rattle.registry.proofs.list.Queries.whole.Goals as goal

pub loop-j-init : goal.loop-j-init
loop-j-init c = passing_start c.args.n c.args.self.used c.args.self.list.now c.default-bits.result c.default-bits.ensures

pub returns-then-self-p : goal.returns-then-self-p
returns-then-self-p c =
    let a = c.args in
    let l = c.loop-j in
    passing_outside a.n a.self.used a.self.list.now l.last l.bits l.j l.invariant a.self.long a.self.few (omega arith) c.if-self-p.true

pub returns-then-number-last : goal.returns-then-number-last
returns-then-number-last c =
    let a = c.args in
    let l = c.loop-j in
    passing_falls a.n a.self.used a.self.list.now l.last l.bits l.j l.invariant a.self.long a.self.few (omega arith) c.if-self-p.false c.query-number.result c.query-number.ensures c.if-number-last.true

pub returns-then-n-q : goal.returns-then-n-q
returns-then-n-q c =
    let a = c.args in
    let l = c.loop-j in
    passing_later a.n a.self.used a.self.list.now l.last l.bits l.j l.invariant a.self.long a.self.few (omega arith) c.if-self-p.false c.query-number.result c.query-number.ensures c.if-number-last.false
    c.query-q.result c.query-q.ensures c.if-n-q.true

pub loop-j-preserved : goal.loop-j-preserved
loop-j-preserved c =
    let a = c.args in
    let l = c.loop-j in
    passing_next a.n a.self.used a.self.list.now l.last l.bits l.j l.invariant a.self.long a.self.few (omega arith) c.if-self-p.false c.query-number.result c.query-number.ensures c.if-number-last.false
    c.query-q.result c.query-q.ensures c.if-n-q.false c.with-bits.result c.with-bits.ensures

pub returns-else-last-le-NUMBER_LIMIT : goal.returns-else-last-le-NUMBER_LIMIT
returns-else-last-le-NUMBER_LIMIT c =
    let a = c.args in
    let l = c.loop-j in
    lt-leb l.last number_limit c.if-last-le-NUMBER_LIMIT.false
    ∙ passing_above a.n a.self.used a.self.list.now l.last l.bits l.j l.invariant a.self.long a.self.few c.loop-j-test.false c.if-last-le-NUMBER_LIMIT.false

pub returns-then-last-le-NUMBER_LIMIT : goal.returns-then-last-le-NUMBER_LIMIT
returns-then-last-le-NUMBER_LIMIT c =
    let a = c.args in
    let l = c.loop-j in
    c.within.ensures
    ∙ passing_done a.n a.self.used a.self.list.now l.last l.bits l.j l.invariant a.self.long a.self.few c.loop-j-test.false c.if-last-le-NUMBER_LIMIT.true
