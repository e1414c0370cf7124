use Rattle.std.proofs.Common.{◌≡◌, ◌++◌, filter, map, nat_le, take}
use Rattle.std.specs.List.{flat_map}
use Rattle.actor_duties.specs.State.{Link}
use Rattle.room_verify.specs.Shown.{peer_seen}
use Rattle.room_verify.specs.Showing.{body_at}
use Rattle.room_verify.proofs.view.Look.add_linked_peers.Given as goal

abbrev pub invariant-loop-index : goal.invariant-loop-index
invariant-loop-index l =
    let b = body_at l.self in
    let places = map (λ (x : Link). x.place) (b.links.linked l.who.slot.0 l.port) in
    l.peers.items ≡ l.initial.peers.items ++ flat_map (peer_seen l.self.plant.now.wiring l.self.me.0 b l.who l.port) (filter (nat_le l.first) (take l.index places))
