use Rattle.std.proofs.Common.{◌≡◌, List, get_or, not, subst, sym, ap, ◌∙◌}
use Rattle.std.specs.Prelude.{filter}
use Rattle.actor_duties.specs.State.{Link}
use Rattle.actor_duties.specs.Links.{is_link, unbound}
use Rattle.layer_service.specs.layer_links.Kept.{PointState, point_in, IsListed}
use Rattle.layer_service.proofs.layer_links.ByPort.{relinked_at, port_there}
use Rattle.layer_service.proofs.layer_links.links.Links.unlink.Goals as goal

pub unlink-requires : goal.unlink-requires
unlink-requires c =
    let slots : List (List PointState) = c.self.inside.slots.items in
    let s = c.args.own.slot.0 in
    let p = c.args.own.port in
    let Listed : List (List PointState) → Type 0 = λ xs. IsListed xs s p in
    let listed : IsListed slots s p = subst Listed (sym c.self.view_is) c.in_ok-list.ensures.listed in
    let read : c.index_mut.result.now ≡ get_or slots s c.index_mut.result.now = rw c.from.ensures at c.index_mut.ensures.value in
    port_there slots s p c.index_mut.result.now listed read

pub returns : goal.returns
unfolding unbound
returns c =
    let slots : List (List PointState) = c.self.inside.slots.items in
    let s = c.args.own.slot.0 in
    let p = c.args.own.port in
    let Listed : List (List PointState) → Type 0 = λ xs. IsListed xs s p in
    let listed : IsListed slots s p = subst Listed (sym c.self.view_is) c.in_ok-list.ensures.listed in
    let same : point_in slots ≡ point_in c.args.self.now = ap point_in c.self.view_is ∙ c.in_ok-list.ensures.same in
    let read : c.index_mut.result.now ≡ get_or slots s c.index_mut.result.now = rw c.from.ensures at c.index_mut.ensures.value in
    rw c.from.ensures (relinked_at c.args.self.now slots s p c.index_mut.result.now c.unlink.new.self (filter (λ (x : Link). not (is_link c.args.peer c.args.own.place x))) same listed read c.unlink.ensures)
