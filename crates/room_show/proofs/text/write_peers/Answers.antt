use Rattle.std.proofs.lemmas.Result.{err_from_is_err_and}
use Rattle.room_show.specs.Lines.{peer_line}
use Rattle.room_show.specs.Text.{peers_text}
use Rattle.room_outside.proofs.line_text.Going.{going_begin, going_on, going_at, going_all, going_breaks}
use Rattle.room_show.proofs.text.write_peers.Goals as goal

pub loop-peer-init : goal.loop-peer-init
loop-peer-init g c = going_begin _ _

pub loop-peer-preserved : goal.loop-peer-preserved
loop-peer-preserved g c =
    going_on _ _ _ _ _ _ (going_at (peer_line c.args.wiring.now c.args.slot.0) _ _ _ _ _ _ c.loop-peer-test.true c.loop-peer.invariant) c.in_ok-write_peer.ensures

pub returns : goal.returns
unfolding peers_text
returns g c = going_all (peer_line c.args.wiring.now c.args.slot.0) _ _ _ _ _ c.loop-peer-test.false c.loop-peer.invariant

pub returns-in_err-write_peer : goal.returns-in_err-write_peer
unfolding peers_text
returns-in_err-write_peer g c =
    let p = err_from_is_err_and c.from_residual.result c.from_residual.ensures.1 in
    rw p.1 (going_breaks _ _ _ _ _ _ (going_at (peer_line c.args.wiring.now c.args.slot.0) _ _ _ _ _ _ c.loop-peer-test.true c.loop-peer.invariant) c.in_err-write_peer.ensures)
