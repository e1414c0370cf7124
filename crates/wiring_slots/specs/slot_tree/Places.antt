-- How many places the slots have, as far as a limit counts them.
use Rattle.std.specs.Prelude.{ℕ, nat_lt, Bool, List, slice_get}
use Rattle.std.specs.List.{sum_by}
use Rattle.std.specs.Option.{option_map_or}
use Rattle.room_kinds.specs.declared.structure.PortKind.{PortKind}
use Rattle.room_kinds.specs.declared.structure.PortKind.TheVariants as ports
use Rattle.room_kinds.specs.declared.structure.ReferenceKind.{ReferenceKind}
use Rattle.room_kinds.specs.declared.structure.ReferenceKind.TheVariants as kinds
use Rattle.room_wiring.specs.declared.slot.Slot.{Slot}
use Rattle.wiring_plan.specs.declared.structure_plan.plan.PlacesPlan.{PlacesPlan}
use Rattle.wiring_plan.specs.declared.structure_plan.plan.PlacesPlan.TheVariants.{One, Number, Any}
use Rattle.wiring_plan.specs.declared.structure_plan.plan.PortPlan.{PortPlan}
use Rattle.wiring_plan.specs.declared.structure_plan.plan.ClassPlan.{ClassPlan}
use Rattle.wiring_plan.specs.declared.structure_plan.plan.StructurePlan.{StructurePlan}

-- The places of a port with a number or none; a port `[*]` has none at the beginning.
abbrev pub places_counted : PlacesPlan → ℕ
places_counted One = 1
places_counted (Number n) = n
places_counted Any = 0

-- What a port, a SAP or a SPP counts at a slot that isn't imported: a SAP one, a SPP and `frame` nothing. A place of a relay port counts once.
abbrev pub counted : PortPlan → ℕ
counted p = by p.kind
  where
    by : PortKind → ℕ
    by ports.Frame = 0
    by ports.Relay = places_counted p.places
    by ports.End = places_counted p.places
    by ports.Internal = places_counted p.places
    by ports.Sap = 1
    by ports.Spp = 0

-- What it counts at an imported slot, which has the ports of the Interface alone.
abbrev pub counted_outside : PortPlan → ℕ
counted_outside p = by p.kind
  where
    by : PortKind → ℕ
    by ports.Frame = 0
    by ports.Relay = places_counted p.places
    by ports.End = places_counted p.places
    by ports.Internal = 0
    by ports.Sap = 0
    by ports.Spp = 0

-- What a port counts at a slot of this kind.
abbrev pub counted_at : ReferenceKind → PortPlan → ℕ
counted_at kinds.Fixed p = counted p
counted_at kinds.Optional p = counted p
counted_at kinds.Imported p = counted_outside p

-- What a class counts at a slot of this kind.
abbrev pub class_places : ReferenceKind → ClassPlan → ℕ
class_places kind c = sum_by (counted_at kind) c.ports

-- What a slot counts.
abbrev pub slot_places : StructurePlan → Slot → ℕ
slot_places plan s = option_map_or (class_places s.kind) (slice_get plan.classes s.class) 0

-- Whether all slots together have more than 65,536 places of SAPs and of ports with a number or none.
unfoldable pub has_too_many_places : StructurePlan → List Slot → Bool
has_too_many_places plan slots = nat_lt 65536 (sum_by (slot_places plan) slots)
