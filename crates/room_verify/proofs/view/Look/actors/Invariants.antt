use Rattle.std.proofs.Common.{◌≡◌}
use Rattle.std.specs.List.{flat_map, range_with_len}
use Rattle.room_verify.specs.Shown.{slot_seen}
use Rattle.room_verify.specs.Showing.{actors_observer, body_at}
use Rattle.room_verify.proofs.view.Look.actors.Given as goal

abbrev pub invariant-loop-number : goal.invariant-loop-number
invariant-loop-number l = l.actors.items ≡ flat_map (slot_seen actors_observer l.self.plant.now.wiring l.self.me.0 (body_at l.self)) (range_with_len 0 l.number)
