-- `feed_lines`: one line after the other. Assumes nothing.
use Rattle.std.proofs.Common.{refl, sym, ◌∙◌, arith, true≢false}
use Rattle.session.proofs.Feeding.{streams-none, streams-next, slices_same, slices_then}
use Rattle.session.proofs.Refusing.{open-room}
use Rattle.session.proofs.Finishing.{goes_on_lem, stopped}
use Rattle.session.proofs.stream.feed_lines.Goals as goal

pub loop-answers-init : goal.loop-answers-init
loop-answers-init c =
    rw c.requires.front
    (record {
      same = slices_same _;
      same_slice = refl;
      inside = record {
        streams = streams-none c.args.chunk.now c.args.from _ _ _;
        onward = omega arith;
        inside = λ h. h;
        beyond = λ h. refl;
        room = omega arith;
        as_long = refl;
        few = λ h. h;
        line = open-room _ _ c.requires.open;
        still = λ e. (refl, (refl, refl));
      };
    })

pub rest_of_line-requires-clause-room : goal.rest_of_line-requires-clause-room
rest_of_line-requires-clause-room c =
    let g = goes_on_lem _ _ _ _ _ (sym c.goes_on.ensures ∙ c.loop-answers-test.true) in
    omega (arith, g.1.0, c.loop-answers.invariant.inside.as_long)

pub rest_of_line-requires-clause-few : goal.rest_of_line-requires-clause-few
rest_of_line-requires-clause-few c = (goes_on_lem _ _ _ _ _ (sym c.goes_on.ensures ∙ c.loop-answers-test.true)).1.1

pub rest_of_line-requires-clause-inside : goal.rest_of_line-requires-clause-inside
rest_of_line-requires-clause-inside c = (goes_on_lem _ _ _ _ _ (sym c.goes_on.ensures ∙ c.loop-answers-test.true)).0

pub loop-answers-preserved : goal.loop-answers-preserved
loop-answers-preserved c =
    let v = c.loop-answers.invariant.inside in
    let told = c.rest_of_line.ensures in
    let rest = told.rest in
    let going = goes_on_lem _ _ _ _ _ (sym c.goes_on.ensures ∙ c.loop-answers-test.true) in
    record {
      same = slices_then c.loop-answers.invariant.same told.same;
      same_slice = told.same_slice ∙ c.loop-answers.invariant.same_slice;
      inside = record {
        streams = streams-next c.args.chunk.now c.args.from _ _ v.onward (omega (arith, rest.onward)) rest.inside v.streams rest.streams;
        onward = omega (arith, rest.onward, v.onward);
        inside = λ h. rest.inside;
        beyond = λ h. absurd (omega (arith, h, going.0, v.onward));
        room = omega (arith, rest.room, going.1.0, rest.streams.puts.put.as_long, v.as_long);
        as_long = rest.streams.puts.put.as_long ∙ v.as_long;
        few = λ h. rest.few;
        line = omega (arith, v.line, rest.streams.kept.line.as_long);
        still = λ e. absurd (omega (arith, e, rest.onward, v.onward));
      };
    }

pub returns-clause-fed : goal.returns-clause-fed
returns-clause-fed c =
    let v = c.loop-answers.invariant.inside in
    record {
      taken = record {
        streams = v.streams;
        onward = v.onward;
        inside = v.inside;
        beyond = v.beyond;
        few = v.few;
        fits = v.room;
        still = v.still;
      };
      stops = λ r sh l k. stopped _ _ _ _ _ (sym c.goes_on.ensures ∙ c.loop-answers-test.false) l k;
      refuses = λ q. absurd (true≢false (sym q ∙ c.requires.open));
    }
