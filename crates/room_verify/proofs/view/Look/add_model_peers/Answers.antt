use Rattle.room_verify.specs.Shown.{peer_seen}
use Rattle.room_verify.specs.Showing.{body_at}
use Rattle.room_verify.proofs.ViewLaw.{added_more}
use Rattle.room_verify.proofs.view.Look.add_model_peers.Goals as goal

pub loop-place-preserved : goal.loop-place-preserved
loop-place-preserved c =
    let v = c.args.self.now in
    added_more (peer_seen v.plant.now.wiring v.me.0 (body_at v) c.args.who c.args.port) c.args.peers.now.items c.loop-place.peers.items c.add_peer.new.peers.items c.loop-place.place
    c.loop-place.invariant c.in_ok-add_peer.ensures
