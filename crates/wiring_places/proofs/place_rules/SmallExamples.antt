-- The definitions computed on small models: service access points over two containers, and a port whose places come by its bindings.
use Rattle.std.proofs.Common.{◌≡◌, ℕ, List, [], ◌∷◌, Option, Some, None, refl}
use Rattle.room_kinds.specs.declared.structure.ReferenceKind.{ReferenceKind}
use Rattle.room_kinds.specs.declared.structure.ReferenceKind.TheVariants.{Fixed, Imported}
use Rattle.room_kinds.specs.declared.structure.PortKind.{PortKind}
use Rattle.room_kinds.specs.declared.structure.PortKind.TheVariants.{Frame, End, Sap, Spp}
use Rattle.room_kinds.specs.declared.numbers.SlotId.{SlotId}
use Rattle.room_wiring.specs.declared.slot.Slot.{Slot}
use Rattle.wiring_plan.specs.declared.structure_plan.plan.SidePlan.TheVariants.{Inner}
use Rattle.wiring_plan.specs.declared.structure_plan.plan.PlacesPlan.{PlacesPlan}
use Rattle.wiring_plan.specs.declared.structure_plan.plan.PlacesPlan.TheVariants.{One, Number, Any}
use Rattle.wiring_plan.specs.declared.structure_plan.plan.PortPlan.{PortPlan}
use Rattle.wiring_plan.specs.declared.structure_plan.plan.ReferencePlan.{ReferencePlan}
use Rattle.wiring_plan.specs.declared.structure_plan.plan.StructurePlan.{StructurePlan}
use Rattle.wiring_places.specs.declared.place_rules.place.LayerJoin.{LayerJoin}
use Rattle.wiring_places.specs.place_rules.Parts.{class_plan}
use Rattle.wiring_places.specs.place_rules.Layers.{layer_joins, slot_joins, port_joins, service}
use Rattle.wiring_places.specs.place_rules.Stretches.{stretches, stretches_from, all_taken, taken_from, side_number}

abbrev port : PortKind → PlacesPlan → PortPlan
port kind places = record { kind = kind; places = places; protocol = Some 0 }

abbrev frame : PortPlan
frame = record { kind = Frame; places = One; protocol = None }

abbrev reference : ℕ → ℕ → ReferencePlan
reference class count = record { class = class; kind = Fixed; count = count }

-- 0 provides the service at port 1, 1 uses it at port 1; 2 has a user and a provider; 3 has a 2, a user and a provider, and gives its own provider to both
abbrev served : StructurePlan
served = record {
  classes =
      record { ports = frame ∷ port Spp One ∷ []; references = []; bindings = []; layers = [] }
      ∷ record { ports = frame ∷ port Sap One ∷ []; references = []; bindings = []; layers = [] }
      ∷ record { ports = frame ∷ []; references = reference 1 1 ∷ reference 0 1 ∷ []; bindings = []; layers = record { reference = 0; provider = 1; service = 1 } ∷ [] }
      ∷ record { ports = frame ∷ []; references = reference 2 1 ∷ reference 1 1 ∷ reference 0 1 ∷ []; bindings = []; layers = record { reference = 0; provider = 2; service = 1 } ∷ record { reference = 1; provider = 2; service = 1 } ∷ [] }
      ∷ [];
  subsystem = record { ports = []; references = reference 3 1 ∷ []; bindings = []; layers = [] };
}

abbrev slot : ℕ → ReferenceKind → Option SlotId → ℕ → Slot
slot class kind parent r = record { path = []; class = class; kind = kind; parent = parent; owner = record { 0 = 0 }; reference = r; index = 0 }

abbrev inside : ℕ → Option SlotId
inside s = Some (record { 0 = s })

-- the 3; its 2 with a user and a provider; its own user and provider
abbrev users : ReferenceKind → List Slot
users kind = slot 3 Fixed None 0 ∷ slot 2 Fixed (inside 0) 0 ∷ slot 1 kind (inside 1) 0 ∷ slot 0 Fixed (inside 1) 1 ∷ slot 1 Fixed (inside 0) 1 ∷ slot 0 Fixed (inside 0) 2 ∷ []

abbrev join : ℕ → ℕ → LayerJoin
join s t = record { sap_slot = s; sap = 1; spp_slot = t; spp = 1 }

-- the inner user is joined by the layer connection of its own container, though that of the outer one fits too
inner_first : layer_joins served (users Fixed) ≡ join 2 3 ∷ join 4 5 ∷ []
unfolding slot_joins port_joins service
inner_first = refl

-- an imported slot has no service access points
none_imported : layer_joins served (users Imported) ≡ join 4 5 ∷ []
unfolding slot_joins port_joins service
none_imported = refl

-- 0 has a port [*], 1 a port of three places, 2 a port of one place; 3 binds the port [*] to both
abbrev growing : StructurePlan
growing = record {
  classes =
      record { ports = frame ∷ port End Any ∷ []; references = []; bindings = []; layers = [] }
      ∷ record { ports = frame ∷ port End (Number 3) ∷ []; references = []; bindings = []; layers = [] }
      ∷ record { ports = frame ∷ port End One ∷ []; references = []; bindings = []; layers = [] }
      ∷ record { ports = frame ∷ []; references = reference 0 1 ∷ reference 1 2 ∷ reference 2 1 ∷ []; bindings = record { left = Inner 0 1; right = Inner 1 1 } ∷ record { left = Inner 2 1; right = Inner 0 1 } ∷ []; layers = [] }
      ∷ [];
  subsystem = record { ports = []; references = reference 3 1 ∷ []; bindings = []; layers = [] };
}

-- the port [*] gets six places by the first binding and a seventh by the second
six_and_one : stretches growing (class_plan growing 3) ≡ record { left = 0; right = 0; count = 6 } ∷ record { left = 0; right = 6; count = 1 } ∷ []
unfolding stretches_from
six_and_one = refl

seven : all_taken growing (class_plan growing 3) (side_number (Inner 0 1)) ≡ 7
unfolding taken_from
seven = refl
