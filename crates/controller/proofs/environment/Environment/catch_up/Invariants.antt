use Rattle.std.proofs.Common.{◌≡◌, length}
use Rattle.actor_merge.specs.World.{latest}
use Rattle.controller_actors.specs.declared.plant.Plant.{Plant}
use Rattle.controller.specs.Controllers.{state_at}
use Rattle.controller.proofs.environment.Environment.catch_up.Given as goal

abbrev pub invariant-loop-c : goal.invariant-loop-c
invariant-loop-c l = record {
  clock : (plant : Plant) → l.self-inside.mail ≡ record l.fn.self { clock = latest (state_at plant l.all) l.c l.fn.self.clock };
  end : l.c-end ≡ length l.all;
}
