use Rattle.std.proofs.Common.{◌≡◌}
use Rattle.std.specs.List.{flat_map, range_with_len}
use Rattle.room_verify.specs.Shown.{port_seen}
use Rattle.room_verify.specs.Showing.{body_at}
use Rattle.room_verify.proofs.view.Look.peers.Given as goal

abbrev pub invariant-loop-port : goal.invariant-loop-port
invariant-loop-port l = l.peers.items ≡ flat_map (port_seen l.self.plant.now.wiring l.self.me.0 (body_at l.self) l.who) (range_with_len 0 l.port)
