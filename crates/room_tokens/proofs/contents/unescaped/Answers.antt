use Rattle.std.proofs.Common.{arith}
use Rattle.room_tokens.proofs.Escapes.{unescaped-step, unescaped-end}
use Rattle.room_tokens.proofs.contents.unescaped.Goals as goal

pub loop-b-preserved : goal.loop-b-preserved
loop-b-preserved c = rw (c.in_ok-add.ensures, c.written.ensures, c.takes-taken.ensures) (unescaped-step c.loop-b.contents.items c.loop-b.taken c.loop-b.b-index c.args.bytes.now _ c.loop-b-test.true c.loop-b.invariant)

pub returns : goal.returns
returns c = unescaped-end c.loop-b.contents.items c.loop-b.taken c.loop-b.b-index c.args.bytes.now _ (omega arith) c.loop-b.invariant
