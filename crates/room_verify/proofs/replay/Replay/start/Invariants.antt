use Rattle.std.proofs.Common.{◌≡◌, map, length}
use Rattle.std.specs.List.{range_with_len}
use Rattle.actor_world.specs.Start.{start_entries}
use Rattle.controller_actors.specs.Plants.{model_of}
use Rattle.room_verify.proofs.StartLaw.{AllStarted}
use Rattle.room_verify.proofs.replay.Replay.start.Given as goal

abbrev pub invariant-loop-me : goal.invariant-loop-me
invariant-loop-me l = record {
  started : AllStarted l.plant l.controllers.items;
  count : length l.controllers.items ≡ l.me;
  entries : l.entries.items ≡ map (start_entries (model_of l.plant) l.plant.wiring) (range_with_len 0 l.me);
}
