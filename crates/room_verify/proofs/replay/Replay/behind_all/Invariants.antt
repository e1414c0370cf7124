use Rattle.std.proofs.Common.{◌≡◌, List, Some, length}
use Rattle.actor_merge.specs.Parties.{Line as RunLine}
use Rattle.controller_actors.specs.declared.plant.Plant.{Plant}
use Rattle.room_verify.specs.Lefts.{Strips}
use Rattle.room_verify.specs.Worlds.{Stands}
use Rattle.room_verify.proofs.LeavesLaw.{left_to}
use Rattle.room_verify.proofs.replay.Replay.behind_all.Given as goal

abbrev pub invariant-loop-c : goal.invariant-loop-c
invariant-loop-c l = record {
  told : (plant : Plant) (lines : List RunLine) (stands : Stands plant l.self) → Strips l.told (left_to plant lines l.self stands l.c) (Some l.rest);
  end : l.c-end ≡ length l.self.controllers.items;
}
