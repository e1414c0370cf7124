use Rattle.std.proofs.Common.{◌≡◌}
use Rattle.std.specs.List.{flat_map, range_with_len}
use Rattle.room_verify.specs.Shown.{place_seen}
use Rattle.room_verify.specs.Showing.{body_at}
use Rattle.room_verify.proofs.view.Look.places.Given as goal

abbrev pub invariant-loop-number : goal.invariant-loop-number
invariant-loop-number l = l.places.items ≡ flat_map (place_seen l.self.plant.now.wiring (body_at l.self).frame) (range_with_len 0 l.number)
