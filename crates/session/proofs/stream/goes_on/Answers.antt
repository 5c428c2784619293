-- `goes_on`: one test after the other. Assumes nothing.
use Rattle.std.proofs.Common.{arith}
use Rattle.session.proofs.Finishing.{no_byte, no_room, by_number}
use Rattle.session.proofs.stream.goes_on.Goals as goal

pub returns-then-size-to : goal.returns-then-size-to
returns-then-size-to c = let a = c.args in no_byte a.to a.size a.at a.room a.lines (omega arith)

pub returns-then-room-lt-LINE_ROOM : goal.returns-then-room-lt-LINE_ROOM
returns-then-room-lt-LINE_ROOM c = let a = c.args in no_room a.to a.size a.at a.room a.lines (omega arith)

pub returns-then-room-at : goal.returns-then-room-at
returns-then-room-at c = let a = c.args in no_room a.to a.size a.at a.room a.lines (omega arith)

pub returns : goal.returns
returns c = let a = c.args in by_number a.to a.size a.at a.room a.lines (omega arith) (omega arith)
