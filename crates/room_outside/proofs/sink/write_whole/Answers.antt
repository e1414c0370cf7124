use Rattle.std.proofs.Common.{rules, ◌<◌, ◌≤◌, length, arith}
use Rattle.std.proofs.lemmas.Grind.{common_steps}
use Rattle.room_outside.specs.Faults.{last_count}
use Rattle.room_outside.proofs.SinkLemmas.{WritesFront-more, WritesFront-breaks}
use Rattle.room_outside.proofs.sink.write_whole.Goals as goal

-- what was taken stands at the front of what was left
pub loop-rest-preserved : goal.loop-rest-preserved
loop-rest-preserved g c =
    rw c.split_at.ensures.back (WritesFront-more c.in-Ok.n c.loop-rest.invariant c.in-Ok.ensures.taken)

-- nothing was taken, while something was left
pub returns-in-Ok-eq0-clause-fault : goal.returns-in-Ok-eq0-clause-fault
returns-in-Ok-eq0-clause-fault g c =
    let some : 0 < length c.loop-rest.rest.now = grind (arith, common_steps) in
    let range : length c.args.piece.now ≤ last_count = grind (arith, common_steps) in
    WritesFront-breaks c.loop-rest.invariant range some (search rules) (search rules)
