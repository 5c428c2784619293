-- `put_answer`: four stores write the places of an answer. Assumes nothing.
use Rattle.std.proofs.Common.{◌∙◌, w64, to_z-of_z}
use Rattle.engine.proofs.Places.{answer_stored}
use Rattle.engine.proofs.answers.put_answer.Goals as goal

pub returns : goal.returns
returns c =
    let a = c.args in
    answer_stored a.answers.now a.at a.q a.count a.value c.requires
    (to_z-of_z {w = w64} {z = c.from.result} (record { sfits = c.from.type_inv }) ∙ c.from.ensures)
    (to_z-of_z {w = w64} {z = c.from-2.result} (record { sfits = c.from-2.type_inv }) ∙ c.from-2.ensures)
    (to_z-of_z {w = w64} {z = c.from-3.result} (record { sfits = c.from-3.type_inv }) ∙ c.from-3.ensures)
    (to_z-of_z c.ranges.value)
