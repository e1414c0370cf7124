use Rattle.std.proofs.Common.{◌≡◌, ◌++◌, drop, List}
use Rattle.room_wiring.specs.declared.slot.Slot.{Slot}
use Rattle.wiring_places.specs.place_rules.Pairs.{binding_pairs}
use Rattle.wiring_places.specs.slot_children.Table.{IsTableOf}
use Rattle.wiring_places.proofs.place_pairs.bindings.add_binding_pairs.Given as goal

abbrev pub invariant-loop-i : goal.invariant-loop-i
invariant-loop-i l = (slots : List Slot) → IsTableOf l.container.children.now slots
    → l.pairs.items ++ binding_pairs slots l.container.first_ports.now l.container.spans.now l.container.class.now l.container.number (drop l.i l.bindings) (drop l.i l.stretches)
    ≡ l.initial.pairs.items ++ binding_pairs slots l.container.first_ports.now l.container.spans.now l.container.class.now l.container.number l.bindings l.stretches
