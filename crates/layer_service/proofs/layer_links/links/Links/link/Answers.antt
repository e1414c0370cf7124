use Rattle.std.proofs.Common.{◌≡◌, List, get_or, subst, sym, ap, ◌∙◌}
use Rattle.actor_duties.specs.Links.{with_link, bound}
use Rattle.layer_service.specs.layer_links.Kept.{PointState, point_in, IsListed}
use Rattle.layer_service.proofs.layer_links.ByPort.{relinked_at, port_there}
use Rattle.layer_service.proofs.layer_links.links.Links.link.Goals as goal

pub link-requires : goal.link-requires
link-requires c =
    let slots : List (List PointState) = c.self.inside.slots.items in
    let s = c.args.own.slot.0 in
    let p = c.args.own.port in
    let Listed : List (List PointState) → Type 0 = λ xs. IsListed xs s p in
    let listed : IsListed slots s p = subst Listed (sym c.self.view_is) c.in_ok-list.ensures.listed in
    let read : c.index_mut.result.now ≡ get_or slots s c.index_mut.result.now = rw c.from.ensures at c.index_mut.ensures.value in
    port_there slots s p c.index_mut.result.now listed read

pub returns : goal.returns
unfolding bound
returns c =
    let slots : List (List PointState) = c.self.inside.slots.items in
    let s = c.args.own.slot.0 in
    let p = c.args.own.port in
    let Listed : List (List PointState) → Type 0 = λ xs. IsListed xs s p in
    let listed : IsListed slots s p = subst Listed (sym c.self.view_is) c.in_ok-list.ensures.listed in
    let same : point_in slots ≡ point_in c.args.self.now = ap point_in c.self.view_is ∙ c.in_ok-list.ensures.same in
    let read : c.index_mut.result.now ≡ get_or slots s c.index_mut.result.now = rw c.from.ensures at c.index_mut.ensures.value in
    rw c.from.ensures (relinked_at c.args.self.now slots s p c.index_mut.result.now c.link.new.self (with_link (record { place = c.args.own.place; peer = c.args.peer })) same listed read c.in_ok-link.ensures)
