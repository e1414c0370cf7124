use Rattle.std.proofs.Common.{◌≡◌, ◌++◌}
use Rattle.std.specs.List.{flat_map, range_with_len}
use Rattle.room_verify.specs.Shown.{peer_seen}
use Rattle.room_verify.specs.Showing.{body_at}
use Rattle.room_verify.proofs.view.Look.add_model_peers.Given as goal

abbrev pub invariant-loop-place : goal.invariant-loop-place
invariant-loop-place l = l.peers.items ≡ l.initial.peers.items ++ flat_map (peer_seen l.self.plant.now.wiring l.self.me.0 (body_at l.self) l.who l.port) (range_with_len 0 l.place)
