use Rattle.std.proofs.Common.{◌≡◌, List, get_or, subst, sym, ap, ◌∙◌}
use Rattle.layer_service.specs.layer_links.Kept.{PointState, registration_of, point_in, IsListed}
use Rattle.layer_service.proofs.layer_links.ByPort.{registered_at, port_there}
use Rattle.layer_service.proofs.layer_links.links.Links.set_registration.Goals as goal

pub set_registration-requires : goal.set_registration-requires
set_registration-requires c =
    let slots : List (List PointState) = c.self.inside.slots.items in
    let s = c.args.slot.0 in
    let p = c.args.port in
    let Listed : List (List PointState) → Type 0 = λ xs. IsListed xs s p in
    let listed : IsListed slots s p = subst Listed (sym c.self.view_is) c.in_ok-list.ensures.listed in
    let read : c.index_mut.result.now ≡ get_or slots s c.index_mut.result.now = rw c.from.ensures at c.index_mut.ensures.value in
    port_there slots s p c.index_mut.result.now listed read

pub returns : goal.returns
returns c =
    let slots : List (List PointState) = c.self.inside.slots.items in
    let s = c.args.slot.0 in
    let p = c.args.port in
    let Listed : List (List PointState) → Type 0 = λ xs. IsListed xs s p in
    let listed : IsListed slots s p = subst Listed (sym c.self.view_is) c.in_ok-list.ensures.listed in
    let same : point_in slots ≡ point_in c.args.self.now = ap point_in c.self.view_is ∙ c.in_ok-list.ensures.same in
    let read : c.index_mut.result.now ≡ get_or slots s c.index_mut.result.now = rw c.from.ensures at c.index_mut.ensures.value in
    rw c.from.ensures (registered_at c.args.self.now slots s p c.index_mut.result.now c.set_registration.new.self (registration_of c.args.next) same listed read c.set_registration.ensures)
