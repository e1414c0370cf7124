use Rattle.std.proofs.Common.{◌≡◌, ◌++◌, drop, false}
use Rattle.room_tokens.specs.Contents.{unescaped}
use Rattle.room_tokens.proofs.contents.unescaped.Given as goal

abbrev pub invariant-loop-b : goal.invariant-loop-b
invariant-loop-b l = l.contents.items ++ unescaped l.taken (drop l.b-index l.bytes) ≡ unescaped false l.bytes
