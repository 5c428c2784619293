-- `rest_of_line`: the line is longer by these bytes, and ends if byte 10 comes. Assumes nothing.
use Rattle.session.proofs.Feeding.{rest_kept, rest_taken}
use Rattle.session.proofs.stream.rest_of_line.Goals as goal

pub returns-in-None-clause-rest : goal.returns-in-None-clause-rest
returns-in-None-clause-rest c =
    rest_kept _ c.args.from c.args.session _ _ _ _ c.keep-kept.ensures.beyond c.requires.inside c.requires.few c.keep-kept.result _ _ c.in-None.ensures
    c.keep-kept.ensures.joined

pub returns-in-Some-clause-rest : goal.returns-in-Some-clause-rest
returns-in-Some-clause-rest c =
    rest_taken _ c.args.from c.args.session _ _ _ _ c.asks_with-asked.ensures.beyond c.requires.inside c.requires.few _ c.in-Some.ensures
    c.asks_with-asked.ensures.joined c.end_line-next.ensures.ended
