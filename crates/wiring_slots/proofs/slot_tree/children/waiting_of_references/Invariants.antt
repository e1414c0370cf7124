use Rattle.std.proofs.Common.{◌≡◌, ◌≤◌, ◌++◌, length, drop}
use Rattle.std.specs.List.{enumerate_from, flat_map}
use Rattle.wiring_slots.specs.slot_tree.WaitingSlots.{waiting_of_reference}
use Rattle.wiring_slots.proofs.slot_tree.children.waiting_of_references.Given as goal

abbrev pub invariant-loop-number : goal.invariant-loop-number
invariant-loop-number l =
    (l.children.items ++ flat_map (waiting_of_reference l.mappings l.container) (enumerate_from l.number (drop l.number l.references))
    ≡ flat_map (waiting_of_reference l.mappings l.container) (enumerate_from 0 l.references))
    × (length l.children.items ≤ l.room)
