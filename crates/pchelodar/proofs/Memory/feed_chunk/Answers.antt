-- `feed_chunk`: a step takes bytes, or the run ends; at last all bytes were fed. Assumes nothing.
use Rattle.std.proofs.Common.{refl, ◌≡◌, ◌∙◌, ap, Err, [], rules, drop_of_length-le}
use Rattle.std.proofs.lemmas.Result.{err_from_is_err_and}
use Rattle.pchelodar.proofs.Composing.{fed_nothing, step_more, chunk_more, chunk_all, chunk_stopped}
use Rattle.pchelodar.proofs.Memories.{memory_same, memory_then}
use Rattle.pchelodar.proofs.Memory.feed_chunk.Goals as goal

pub loop-rest-init : goal.loop-rest-init
loop-rest-init g c = record { same = memory_same _; told = λ t. t; got = refl; fed = ([], refl, fed_nothing _ _) }

pub returns-in_err-taken-clause-fed : goal.returns-in_err-taken-clause-fed
returns-in_err-taken-clause-fed g c =
    let (done, split, fed) = c.loop-rest.invariant.fed in
    let (e, is, alike) = err_from_is_err_and c.from_residual.result c.from_residual.ensures.1 in
    chunk_stopped _ _ _ _ c.in_err-taken.field-0.0 _ (is ∙ ap (λ x. Err x) alike) fed c.in_err-taken.ensures.fed

pub loop-rest-preserved : goal.loop-rest-preserved
loop-rest-preserved g c =
    let (done, split, fed) = c.loop-rest.invariant.fed in
    record {
      same = memory_then c.loop-rest.invariant.same c.feed.ensures.same;
      told = λ t. c.in_ok-taken.ensures.told;
      got = c.feed.ensures.got ∙ c.loop-rest.invariant.got;
      fed = (_, chunk_more _ _ _ c.in_ok-taken.taken split, step_more _ _ _ c.in_ok-taken.taken fed c.in_ok-taken.ensures.fed);
    }

pub returns-clause-fed : goal.returns-clause-fed
returns-clause-fed g c =
    let (done, split, fed) = c.loop-rest.invariant.fed in
    let empty : c.loop-rest.rest.now ≡ [] = drop_of_length-le c.loop-rest.rest.now {i = 0} (search rules) in
    chunk_all _ done split empty fed
