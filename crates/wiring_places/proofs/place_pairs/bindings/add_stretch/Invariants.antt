use Rattle.std.proofs.Common.{◌≡◌, ◌++◌, ◌-◌, List}
use Rattle.room_wiring.specs.declared.slot.Slot.{Slot}
use Rattle.wiring_places.specs.place_rules.Pairs.{stretch_pairs}
use Rattle.wiring_places.specs.slot_children.Table.{IsTableOf}
use Rattle.wiring_places.proofs.place_pairs.bindings.add_stretch.Given as goal

abbrev pub invariant-loop-k : goal.invariant-loop-k
invariant-loop-k l = (slots : List Slot) → IsTableOf l.container.children.now slots
    → l.pairs.items ++ stretch_pairs slots l.container.first_ports.now l.container.spans.now l.container.class.now l.container.number l.binding l.stretch l.k (l.stretch.count - l.k)
    ≡ l.initial.pairs.items ++ stretch_pairs slots l.container.first_ports.now l.container.spans.now l.container.class.now l.container.number l.binding l.stretch 0 l.stretch.count
