use Rattle.layer_service.proofs.layer_links.links.Links.peer.Goals as goal
use Rattle.actor_duties.specs.Peers.{link_peer}

pub returns : goal.returns
unfolding link_peer
returns c = rw c.from.ensures at c.peer_at.ensures.peer c.args.from.generation.0
