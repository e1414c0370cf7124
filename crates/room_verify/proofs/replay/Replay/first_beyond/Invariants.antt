use Rattle.std.proofs.Common.{◌≡◌, ℕ, ◌<◌, ◌≤◌, length}
use Rattle.room_verify.specs.Worlds.{world_in}
use Rattle.room_verify.proofs.replay.Replay.first_beyond.Given as goal

abbrev pub invariant-loop-c : goal.invariant-loop-c
invariant-loop-c l = record {
  before : (k : ℕ) → k < l.c → ((world_in l.plant l.self).controllers k).turns ≤ l.fuel;
  end : l.c-end ≡ length l.self.controllers.items;
}
