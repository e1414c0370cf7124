use Rattle.std.proofs.Common.{◌≡◌, ◌<◌, List, length, get_or, subst, sym, ap, ◌∙◌}
use Rattle.layer_service.specs.layer_links.Kept.{PointState, points_of}
use Rattle.layer_service.proofs.layer_links.ByPort.{listed_port, kept_ports}
use Rattle.layer_service.proofs.layer_links.links.Links.list.Goals as goal

pub returns : goal.returns
returns c =
    let slots : List (List PointState) = c.self.inside.slots.items in
    let s = c.args.slot.0 in
    let IsLong : List (List PointState) → Type 0 = λ xs. s < length xs in
    let lt : s < length slots = subst IsLong (sym c.self.view_is) c.in_ok-list_slot.ensures.listed in
    let known : points_of slots ≡ points_of c.args.self.now = ap points_of c.self.view_is ∙ c.in_ok-list_slot.ensures.same in
    let read : c.index_mut.result.now ≡ get_or slots s c.index_mut.result.now = rw c.from.ensures at c.index_mut.ensures.value in
    rw c.from.ensures (record {
      listed = listed_port slots s c.args.port c.list.new.self lt c.in_ok-list.ensures.listed;
      same = kept_ports c.args.self.now slots s c.index_mut.result.now c.list.new.self known lt read c.in_ok-list.ensures.same;
    })
