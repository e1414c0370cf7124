use Rattle.std.proofs.Common.{◌≡◌, drop}
use Rattle.actor_duties.specs.Peers.{fitting_plug}
use Rattle.frame_service.proofs.frame_imports.frame_peers.peers.fitting_plug.Given as goal

abbrev pub invariant-loop-plug : goal.invariant-loop-plug
invariant-loop-plug l = fitting_plug l.wiring l.plugs l.port l.place ≡ fitting_plug l.wiring (drop l.plug-index l.plugs) l.port l.place
