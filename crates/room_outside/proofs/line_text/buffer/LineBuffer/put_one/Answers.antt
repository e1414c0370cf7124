use Rattle.std.proofs.Common.{append-nil}
use Rattle.room_outside.proofs.line_text.buffer.LineBuffer.put_one.Goals as goal

pub returns : goal.returns
returns g c = rw append-nil c.put_part.ensures
