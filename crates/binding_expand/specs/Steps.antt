-- What is known between the steps to a wiring.
use Rattle.std.specs.Prelude.{◌≡◌, ◌<◌, ◌≤◌, Bool, true, false, List, length, Result, Ok, Err}
use Rattle.room_ast.specs.Trees.{ModelTree}
use Rattle.room_wiring.specs.declared.slot.Slot.{Slot}
use Rattle.room_wiring.specs.declared.tables.Tables.{Tables}
use Rattle.wiring_plan.specs.structure_plan.Plans.{plan_of}
use Rattle.wiring_plan.specs.declared.structure_plan.plan.StructurePlan.{StructurePlan}
use Rattle.check_classes.specs.class_rules.Ends.{has_known_actors}
use Rattle.check_bindings.specs.structure_rules.Threads.{threads_are_few}
use Rattle.wiring_slots.specs.slot_tree.Places.{has_too_many_places}
use Rattle.wiring_slots.specs.model_slots.Answers.{slots_in, wired}
use Rattle.wiring_slots.specs.declared.model_slots.slots.WiredSlots.{WiredSlots}
use Rattle.wiring_places.specs.place_rules.Layers.{layer_joins}
use Rattle.wiring_places.specs.place_rules.Pairs.{lacks_place}
use Rattle.wiring_places.specs.place_rules.Partners.{has_socket_pair, has_socket_away}
use Rattle.wiring_joins.specs.joined_places.Wired.{places_in, partners_in, ArePlacesOf}
use Rattle.wiring_joins.specs.declared.joined_places.places.WiredPlaces.{WiredPlaces}
use Rattle.wiring_joins.specs.tellings.Told.{SaysWhoIsTold}
use Rattle.binding_expand.specs.wiring_tables.Assembled.{assembled}
use Rattle.binding_expand.specs.declared.fault.WiringFault.TheVariants as wiring_faults
use Rattle.binding_expand.specs.declared.fault.ExpandFault.{ExpandFault}
use Rattle.binding_expand.specs.declared.fault.ExpandFault.TheVariants as faults

-- Slots of a model whose references name actor classes, with few threads, and no more than 4,096.
pub record AreWired (w : WiredSlots) : Type 0 where
  pub model : ModelTree
  pub known : has_known_actors model ≡ true
  pub threads : threads_are_few model ≡ true
  pub is : w ≡ wired model
  pub few : length (slots_in model) ≤ 4096

-- The slots of a model, within the limits; or the limit that they pass.
abbrev pub FindsSlots : ModelTree → Result WiredSlots ExpandFault → Type 0
FindsSlots m (Ok w) = (w ≡ wired m) × (length (slots_in m) ≤ 4096) × (has_too_many_places (plan_of m) (slots_in m) ≡ false)
FindsSlots m (Err (faults.Wiring wiring_faults.TooManySlots)) = 4096 < length (slots_in m)
FindsSlots m (Err (faults.Wiring wiring_faults.TooManyPlaces)) = (length (slots_in m) ≤ 4096) × (has_too_many_places (plan_of m) (slots_in m) ≡ true)
FindsSlots m (Err (faults.Wiring wiring_faults.NoFreePlace)) = ⊥
FindsSlots m (Err (faults.Wiring wiring_faults.SocketPair)) = ⊥
FindsSlots m (Err (faults.Wiring wiring_faults.SocketAway)) = ⊥
FindsSlots m (Err faults.Memory) = Unit {0}

-- By their partners, two sockets are joined.
abbrev pub pairs_sockets : StructurePlan → List Slot → Bool
pairs_sockets plan slots = has_socket_pair (places_in plan slots) (partners_in plan slots)

-- By their partners, an end place is joined to a socket of another owner.
abbrev pub joins_away : StructurePlan → List Slot → Bool
joins_away plan slots = has_socket_away slots (places_in plan slots) (partners_in plan slots)

-- The places of slots, without a fault; or the first fault that their bindings and partners show.
abbrev pub FindsPlaces : StructurePlan → List Slot → Result WiredPlaces ExpandFault → Type 0
FindsPlaces plan slots (Ok p) = ArePlacesOf plan slots p × (pairs_sockets plan slots ≡ false) × (joins_away plan slots ≡ false)
FindsPlaces plan slots (Err (faults.Wiring wiring_faults.TooManySlots)) = ⊥
FindsPlaces plan slots (Err (faults.Wiring wiring_faults.TooManyPlaces)) = ⊥
FindsPlaces plan slots (Err (faults.Wiring wiring_faults.NoFreePlace)) = lacks_place plan slots ≡ true
FindsPlaces plan slots (Err (faults.Wiring wiring_faults.SocketPair)) = (lacks_place plan slots ≡ false) × (pairs_sockets plan slots ≡ true)
FindsPlaces plan slots (Err (faults.Wiring wiring_faults.SocketAway)) = (lacks_place plan slots ≡ false) × (pairs_sockets plan slots ≡ false) × (joins_away plan slots ≡ true)
FindsPlaces plan slots (Err faults.Memory) = Unit {0}

-- The tables of these slots, with the partners of their places and with answers on who is told.
pub record Completes (w : WiredSlots) (t : Tables) : Type 0 where
  pub told : List (List Bool)
  pub is : t ≡ assembled w (layer_joins w.plan w.slots) (partners_in w.plan w.slots) told
  pub says : SaysWhoIsTold w.slots (places_in w.plan w.slots) (partners_in w.plan w.slots) (length w.controllers) told
