use Rattle.std.proofs.Common.{◌≡◌, ◌+◌, ◌-◌, length}
use Rattle.layer_service.specs.layer_links.Kept.{points_of}
use Rattle.layer_service.proofs.layer_links.links.Links.list_slot.Given as goal

abbrev pub invariant-loop-slot : goal.invariant-loop-slot
invariant-loop-slot l = points_of l.self-inside.slots.items ≡ points_of l.initial.self-inside.slots.items

abbrev pub decreases-loop-slot : goal.decreases-loop-slot
decreases-loop-slot l = l.slot.0 + 1 - length l.self-inside.slots.items
