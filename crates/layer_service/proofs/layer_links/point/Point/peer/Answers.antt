use Rattle.std.proofs.Common.{◌≡◌, List, Option, Some, sym, subst, ap, ◌∙◌}
use Rattle.std.specs.Prelude.{option_map}
use Rattle.room_kinds.specs.declared.numbers.Endpoint.{Endpoint}
use Rattle.actor_duties.specs.State.{Link}
use Rattle.actor_duties.specs.Peers.{link_at}
use Rattle.layer_service.specs.layer_links.Kept.{PointState}
use Rattle.layer_service.specs.layer_links.Rising.{IsAt}
use Rattle.layer_service.proofs.layer_links.ByPlace.{found, absent, near}
use Rattle.layer_service.proofs.layer_links.point.Point.peer.Goals as goal

-- the peer that a link leads to
abbrev peer_of : Option Link → Option Endpoint
peer_of o = option_map (λ (x : Link). x.peer) o

pub returns-in-Ok : goal.returns-in-Ok
returns-in-Ok c =
    let links : List Link = c.self.inside.linked.items in
    let k = c.args.place in
    let i = c.in-Ok.index in
    let d : Link = c.index.result.now in
    let at : IsAt links k i = subst (λ (s : PointState). IsAt s.linked k i) (sym c.self.view_is) c.in-Ok.ensures.found in
    let whole : peer_of (link_at k links) ≡ Some d.peer = ap peer_of (found 0 links k i d c.self.invariant at) ∙ ap (λ (x : Link). peer_of (Some x)) (sym c.index.ensures) in
    record {
      peer = ap (λ (e : Endpoint). Some e) c.peer.ensures ∙ sym whole ∙ ap (λ (s : PointState). peer_of (link_at k s.linked)) c.self.view_is;
      near = near 0 links k i c.self.invariant at;
    }

pub returns-in-Err-clause-peer : goal.returns-in-Err-clause-peer
returns-in-Err-clause-peer c = sym (ap peer_of (absent c.args.self.now.linked c.args.place c.in-Err.field-0 c.in-Err.ensures.absent))
