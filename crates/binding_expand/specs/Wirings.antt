-- The wiring of a model.
use Rattle.std.specs.Prelude.{◌≡◌, ℕ, true, List, Some, length, slice_get}
use Rattle.number_graphs.specs.declared.face_chains.FacePair.{FacePair}
use Rattle.room_ast.specs.Trees.{ModelTree}
use Rattle.room_wiring.specs.declared.slot.Partner.{Partner}
use Rattle.room_wiring.specs.declared.slot.Partner.TheVariants.{Nobody}
use Rattle.room_wiring.specs.declared.tables.Tables.{Tables}
use Rattle.wiring_plan.specs.structure_plan.Plans.{plan_of}
use Rattle.wiring_plan.specs.wiring_classes.Classes.{classes_of}
use Rattle.wiring_slots.specs.slot_names.Names.{wired_names}
use Rattle.wiring_slots.specs.model_slots.Answers.{slots_in}
use Rattle.wiring_places.specs.declared.place_rules.place.Place.{Place}
use Rattle.wiring_places.specs.place_rules.Counts.{first_ports_from}
use Rattle.wiring_places.specs.place_rules.Partners.{is_relay_role}
use Rattle.wiring_joins.specs.place_joins.Joined.{ShowsJoins}
use Rattle.wiring_joins.specs.joined_places.Wired.{spans_in, places_in, pairs_in}
use Rattle.wiring_joins.specs.tellings.Told.{SaysWhoIsTold}

-- The places of all ports of all slots of a model, in one row.
abbrev pub places_of : ModelTree → List Place
places_of m = places_in (plan_of m) (slots_in m)

-- The pairs of their faces that the model's bindings and layer connections make.
abbrev pub pairs_of : ModelTree → List FacePair
pairs_of m = pairs_in (plan_of m) (slots_in m)

-- There is a partner for each place. That of an end place or of a socket is the end place or the socket to which a list of pairs leads from there, or nobody; a place that passes messages on has none.
pub record ArePartnersOf (places : List Place) (pairs : List FacePair) (partners : List Partner) : Type 0 where
  pub complete : length partners ≡ length places
  pub joined : ShowsJoins places pairs partners
  pub relays : (i : ℕ) (x : Place) → slice_get places i ≡ Some x → is_relay_role x.role ≡ true → slice_get partners i ≡ Some Nobody

-- These tables are the wiring of a model.
pub record IsWiringOf (m : ModelTree) (t : Tables) : Type 0 where
  -- the slots, with their paths, classes, containers and owners, the controllers and the classes are the model's
  pub slots : t.slots ≡ slots_in m
  pub controllers : t.controllers ≡ (wired_names m).controllers
  pub classes : t.classes ≡ classes_of m
  -- each port of each slot has as many places as the rules give it, and they stand so in the row of all places
  pub first_ports : t.first_ports ≡ first_ports_from (plan_of m) 0 (slots_in m)
  pub ports : t.ports ≡ spans_in (plan_of m) (slots_in m)
  -- each place is told what it is joined to
  pub partners : ArePartnersOf (places_of m) (pairs_of m) t.partners
  -- the owner of a slot tells another controller where an end place of a slot of that controller is joined to an end place of the slot, and every other one where an end place of the slot is joined to a socket
  pub told : SaysWhoIsTold (slots_in m) (places_of m) t.partners (length t.controllers) t.told
