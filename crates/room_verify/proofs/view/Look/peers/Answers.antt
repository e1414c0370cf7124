use Rattle.room_verify.specs.Shown.{port_seen}
use Rattle.room_verify.specs.Showing.{body_at}
use Rattle.std.proofs.Common.{[]}
use Rattle.room_verify.proofs.ViewLaw.{added_more}
use Rattle.room_verify.proofs.view.Look.peers.Goals as goal

pub loop-port-preserved : goal.loop-port-preserved
loop-port-preserved c =
    let v = c.args.self.now in
    added_more (port_seen v.plant.now.wiring v.me.0 (body_at v) c.args.who) [] c.loop-port.peers.items c.add_port_peers.new.peers.items c.loop-port.port
    c.loop-port.invariant c.in_ok-add_port_peers.ensures
