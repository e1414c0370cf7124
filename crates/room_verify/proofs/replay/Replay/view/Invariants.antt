use Rattle.std.proofs.Common.{◌≡◌, ℕ, map}
use Rattle.std.specs.List.{range_with_len}
use Rattle.room_verify.specs.Shown.{controller_seen}
use Rattle.room_verify.specs.Showing.{actors_observer}
use Rattle.room_verify.specs.Worlds.{world_in}
use Rattle.room_verify.proofs.replay.Replay.view.Given as goal

abbrev pub invariant-loop-state : goal.invariant-loop-state
invariant-loop-state l =
    l.controllers.items ≡ map (λ (c : ℕ). controller_seen actors_observer l.plant.wiring c ((world_in l.plant l.self).controllers c)) (range_with_len 0 l.state-index)
