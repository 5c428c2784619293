-- `feed_lines`: what was taken so far is the session's bytes; the measure is how many bytes are left. Assumes nothing.
use Rattle.std.proofs.Common.{◌≡◌, ◌-◌, length}
use Rattle.board.specs.Lending.{lent_lists, SameSlices}
use Rattle.session.specs.Promises.{held}
use Rattle.session.proofs.Feeding.{Inside}
use Rattle.session.proofs.stream.feed_lines.Given as goal

abbrev pub invariant-loop-answers : goal.invariant-loop-answers
invariant-loop-answers l =
    let i = l.initial in
    record {
      same : SameSlices i.tables l.tables;
      same_slice : l.output.bytes.ghost_name ≡ i.output.bytes.ghost_name;
      inside : Inside l.chunk l.from
          (held i.session i.list i.line (lent_lists i.tables)) i.output.bytes.now
          (held l.session l.list l.line (lent_lists l.tables)) l.to l.output.bytes.now l.output.at;
    }

abbrev pub decreases-loop-answers : goal.decreases-loop-answers
decreases-loop-answers l = length l.chunk - l.to
