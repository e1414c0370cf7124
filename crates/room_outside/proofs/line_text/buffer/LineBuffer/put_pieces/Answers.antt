use Rattle.std.proofs.Common.{◌-◌, [], length}
use Rattle.std.proofs.lemmas.Result.{err_from_is_err_and}
use Rattle.room_outside.proofs.line_text.Going.{going_fills, going_breaks}
use Rattle.room_outside.proofs.line_text.buffer.LineBuffer.put_pieces.Goals as goal

pub returns-in_err-make_room : goal.returns-in_err-make_room
returns-in_err-make_room g c =
    let p = err_from_is_err_and c.from_residual.result c.from_residual.ensures.1 in
    rw p.1 (going_breaks _ _ _ _ [] c.loop-rest.rest.now c.loop-rest.invariant c.in_err-make_room.ensures.puts)

pub loop-rest-preserved : goal.loop-rest-preserved
loop-rest-preserved g c =
    rw (c.fill-rest.ensures.held, c.fill-rest.ensures.left)
    (going_fills _ _ _ _ _ _ (4096 - length c.make_room.new.self.bytes) c.loop-rest.invariant c.in_ok-make_room.ensures.puts)
