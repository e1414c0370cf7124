use Rattle.std.proofs.Common.{refl}
use Rattle.actor_merge.specs.Mail.{event_of}
use Rattle.room_verify.specs.Worlds.{plan, world_in}
use Rattle.room_verify.proofs.WorldLaw.{environment_barred}
use Rattle.room_verify.proofs.replay.Replay.move_environment.Goals as goal

pub returns-in-Start : goal.returns-in-Start
returns-in-Start c = environment_barred (plan c.args.plant.now c.args.lines.now) (world_in c.args.plant.now c.args.self.now) (event_of c.args.e.now) (rw c.in-Start.is refl)

pub returns-in-Fetch : goal.returns-in-Fetch
returns-in-Fetch c = environment_barred (plan c.args.plant.now c.args.lines.now) (world_in c.args.plant.now c.args.self.now) (event_of c.args.e.now) (rw c.in-Fetch.is refl)

pub returns-in-Turn : goal.returns-in-Turn
returns-in-Turn c = environment_barred (plan c.args.plant.now c.args.lines.now) (world_in c.args.plant.now c.args.self.now) (event_of c.args.e.now) (rw c.in-Turn.is refl)

pub returns-in-Post : goal.returns-in-Post
returns-in-Post c = rw c.in-Post.is c.post_line.ensures
