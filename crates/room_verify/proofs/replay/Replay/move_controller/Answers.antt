use Rattle.std.proofs.Common.{refl}
use Rattle.actor_merge.specs.Mail.{event_of}
use Rattle.controller.specs.Controllers.{run_plant}
use Rattle.room_verify.specs.Worlds.{world_in}
use Rattle.room_verify.proofs.WorldLaw.{controller_barred}
use Rattle.room_verify.proofs.replay.Replay.move_controller.Goals as goal

pub returns-in-Start : goal.returns-in-Start
returns-in-Start c = λ lines.
    controller_barred (run_plant c.args.plant.now lines) (world_in c.args.plant.now c.args.self.now) c.args.c.0 (event_of c.args.e.now) c.requires.controller
    (rw c.in-Start.is refl)

pub returns-in-Fetch : goal.returns-in-Fetch
returns-in-Fetch c = rw c.in-Fetch.is c.fetch.ensures

pub returns-in-Turn : goal.returns-in-Turn
returns-in-Turn c = rw c.in-Turn.is c.turn.ensures

pub returns-in-Post : goal.returns-in-Post
returns-in-Post c = rw c.in-Post.is c.post.ensures
