-- Sums of places up to a cap.
use Rattle.std.specs.Prelude.{ℕ, min, List, slice_get}
use Rattle.std.specs.List.{sum_by}
use Rattle.std.specs.Option.{option_map_or}
use Rattle.room_kinds.specs.declared.structure.ReferenceKind.{ReferenceKind}
use Rattle.room_kinds.specs.declared.structure.ReferenceKind.TheVariants as kinds
use Rattle.room_wiring.specs.declared.slot.Slot.{Slot}
use Rattle.wiring_plan.specs.declared.structure_plan.plan.ClassPlan.{ClassPlan}
use Rattle.wiring_slots.specs.slot_tree.Places.{counted_at}
use Rattle.wiring_slots.specs.declared.slot_tree.places.ClassCounts.{ClassCounts}

-- One more than the limit: larger numbers count as this one.
abbrev pub cap : ℕ
cap = 65537

-- What a class counts at a slot that isn't imported, and at one that is, up to the cap.
abbrev pub counts_of : ClassPlan → ClassCounts
counts_of c = record { own = min cap (sum_by (counted_at kinds.Fixed) c.ports); imported = min cap (sum_by (counted_at kinds.Imported) c.ports) }

-- What a class counts at a slot of this kind.
abbrev pub count_at : ReferenceKind → ClassCounts → ℕ
count_at kinds.Fixed c = c.own
count_at kinds.Optional c = c.own
count_at kinds.Imported c = c.imported

-- What a slot counts, up to the cap.
abbrev pub slot_count : List ClassCounts → Slot → ℕ
slot_count counts s = option_map_or (count_at s.kind) (slice_get counts s.class) 0
