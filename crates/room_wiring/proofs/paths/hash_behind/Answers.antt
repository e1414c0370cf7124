use Rattle.room_wiring.proofs.Hashing.{next_hash, whole_hash}
use Rattle.room_wiring.proofs.paths.hash_behind.Goals as goal

pub loop-byte-preserved : goal.loop-byte-preserved
loop-byte-preserved c = next_hash c.args.front c.loop-byte.hash c.loop-byte.byte-index c.from.result 0 c.args.bytes.now c.loop-byte-test.true c.loop-byte.invariant c.from.ensures

pub returns : goal.returns
returns c = whole_hash c.args.front c.loop-byte.hash c.loop-byte.byte-index c.args.bytes.now c.loop-byte-test.false c.loop-byte.invariant
