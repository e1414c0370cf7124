use Rattle.std.proofs.Common.{◌<◌, ◌≤◌, length, List, ap, ◌∙◌, arith}
use Rattle.layer_service.specs.layer_links.Kept.{PointState, links_of, cleared}
use Rattle.layer_service.proofs.layer_links.ByPort.{cleared_at, cleared_beyond}
use Rattle.layer_service.proofs.layer_links.links.Links.clear.Goals as goal

pub returns-then-from-len : goal.returns-then-from-len
returns-then-from-len c =
    let slots : List (List PointState) = c.self.inside.slots.items in
    let lt : c.args.slot.0 < length slots = omega (arith, c.from.ensures, c.len.ensures) in
    rw (c.new.ensures, c.from-then-from-len.ensures)
    (cleared_at slots c.args.slot.0 lt ∙ ap (λ (s : List (List PointState)). cleared (links_of s) c.args.slot.0) c.self.view_is)

pub returns-else-from-len : goal.returns-else-from-len
returns-else-from-len c =
    let past : length c.args.self.now ≤ c.args.slot.0 =
    omega (arith, c.from.ensures, c.len.ensures, ap (λ (s : List (List PointState)). length s) c.self.view_is) in
    cleared_beyond c.args.self.now c.args.slot.0 past
