use Rattle.std.proofs.Common.{◌≡◌, length}
use Rattle.actor_merge.specs.World.{latest}
use Rattle.controller_actors.specs.declared.plant.Plant.{Plant}
use Rattle.room_verify.specs.States.{controllers_in}
use Rattle.room_verify.proofs.line_cursor.LineCursor.catch_up.Given as goal

abbrev pub invariant-loop-c : goal.invariant-loop-c
invariant-loop-c l = record {
  clock : (plant : Plant) → l.self ≡ record l.fn.self { clock = latest (controllers_in plant l.all) l.c l.fn.self.clock };
  end : l.c-end ≡ length l.all;
}
