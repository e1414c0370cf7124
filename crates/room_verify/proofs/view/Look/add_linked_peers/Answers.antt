use Rattle.std.proofs.Common.{◌∙◌, map, nat_le, sym, arith}
use Rattle.std.proofs.lemmas.List.{length-map}
use Rattle.actor_duties.specs.State.{Link}
use Rattle.room_verify.specs.Shown.{peer_seen}
use Rattle.room_verify.specs.Showing.{body_at}
use Rattle.room_verify.proofs.ViewLaw.{added_item, item_there}
use Rattle.room_verify.proofs.view.Look.add_linked_peers.Goals.{in-Some+in_ok-add_linked_peer, in_default}
use Rattle.room_verify.proofs.view.Look.add_linked_peers.Goals as goal

pub loop-index-preserved : goal.loop-index-preserved
loop-index-preserved c =
    let v = c.args.self.now in
    let linked = (body_at v).links.linked c.args.who.slot.0 c.args.port in
    let places = map (λ (x : Link). x.place) linked in
    let see = peer_seen v.plant.now.wiring v.me.0 (body_at v) c.args.who c.args.port in
    elim c.match-linked.branch [
      | in-Some+in_ok-add_linked_peer w ↦
          added_item see c.args.peers.now.items c.loop-index.peers.items c.match-linked.peers.items (nat_le c.args.first) places c.loop-index.index w.in-Some.place
          (sym c.linked_place-linked.ensures ∙ w.in-Some.is) c.loop-index.invariant (rw w.peers-is w.in_ok-add_linked_peer.ensures)
      | in_default w ↦
          absurd
          (item_there places c.loop-index.index c.link_count-count.result (omega arith) (c.link_count-count.ensures ∙ sym (length-map linked (λ (x : Link). x.place)))
          (sym c.linked_place-linked.ensures ∙ w.in_default.is))
    ]
