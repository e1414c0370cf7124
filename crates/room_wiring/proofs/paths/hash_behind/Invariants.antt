use Rattle.std.proofs.Common.{◌≡◌, drop}
use Rattle.room_wiring.specs.Paths.{hash_behind}
use Rattle.room_wiring.proofs.paths.hash_behind.Given as goal

abbrev pub invariant-loop-byte : goal.invariant-loop-byte
invariant-loop-byte l = hash_behind l.hash (drop l.byte-index l.bytes) ≡ hash_behind l.front l.bytes
