use Rattle.std.proofs.Common.{◌≡◌, ℕ, ◌<◌, length}
use Rattle.actor_world.specs.Journals.{HasMessage, IsSpent}
use Rattle.controller_actors.specs.declared.plant.Plant.{Plant}
use Rattle.room_verify.specs.Worlds.{Stands, world_in}
use Rattle.room_verify.proofs.replay.Replay.all_are_spent.Given as goal

abbrev pub invariant-loop-c : goal.invariant-loop-c
invariant-loop-c l = record {
  before : (plant : Plant) → Stands plant l.self → (k : ℕ) → k < l.c → HasMessage (world_in plant l.self) k
      → IsSpent l.fuel ((world_in plant l.self).controllers k);
  end : l.c-end ≡ length l.self.controllers.items;
}
