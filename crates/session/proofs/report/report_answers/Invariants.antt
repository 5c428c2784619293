-- `report_answers`: the answers before this one are printed. Assumes nothing.
use Rattle.std.proofs.Common.{◌≡◌, ◌+◌, ◌*◌, ◌≤◌}
use Rattle.engine.specs.Answers.{answers_in}
use Rattle.print.specs.Put.{Put}
use Rattle.print.specs.Lines.{answer_room}
use Rattle.session.specs.Meaning.{answer_texts}
use Rattle.session.proofs.report.report_answers.Given as goal

abbrev pub invariant-loop-answer : goal.invariant-loop-answer
invariant-loop-answer l = record {
  same_slice : l.output.bytes.ghost_name ≡ l.initial.output.bytes.ghost_name;
  put : Put l.initial.output.bytes.now l.initial.output.at (answer_texts l.n (answers_in l.answer-index l.fn.answers)) l.output.bytes.now l.output.at;
  short : l.output.at ≤ l.initial.output.at + answer_room * l.answer-index;
}
