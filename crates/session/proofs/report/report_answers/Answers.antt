-- `report_answers`: one answer after the other. Assumes nothing.
use Rattle.std.proofs.Common.{arith, rules, ◌∙◌}
use Rattle.session.proofs.Reporting.{answer-taken, same_printed, answers-printed}
use Rattle.session.proofs.report.report_answers.Goals as goal

pub loop-answer-preserved : goal.loop-answer-preserved
loop-answer-preserved c =
    let v = c.loop-answer.invariant in
    let r = c.report_answer.ensures in
    let i = c.loop-answer.answer-index in
    let given = answer-taken c.args.k _ i c.args.answers.now c.as_chunks.ensures.front c.as_chunks.ensures.front_len c.loop-answer-test.true in
    record {
      same_slice = r.same_slice ∙ v.same_slice;
      put = answers-printed c.args.n i c.args.answers.now v.put (same_printed c.args.n _ _ r.put (search rules));
      short = omega arith;
    }
