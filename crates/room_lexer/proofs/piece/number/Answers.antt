use Rattle.std.proofs.Common.{arith, sym, ◌<◌, ◌+◌, ◌*◌, ◌-◌, get_or}
use Rattle.room_lexer.specs.Front.{max_number}
use Rattle.room_lexer.proofs.Value.{too_large}
use Rattle.room_lexer.proofs.piece.number.Goals as goal

pub returns-then-n-digit : goal.returns-then-n-digit
returns-then-n-digit c =
    let i = c.loop-d.invariant in
    let large : max_number < 10 * c.loop-d.n + (get_or c.args.digits.now c.loop-d.d-index 0 - 48) = omega (arith, c.type_inv.digits c.loop-d.d-index) in
    sym (too_large c.loop-d.n c.loop-d.d-index c.args.digits.now c.loop-d-test.true large i.so_far)
