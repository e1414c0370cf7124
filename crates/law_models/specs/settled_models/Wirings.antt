-- What agreement on imports and on peers asks of the wiring of a model that keeps all rules and has no fault.
-- Each slot's owner is a controller; an imported slot has a container, whose owner is its own too; and
-- partners are each other's, and who may have to know of a slot is told of it (`IsMutual`).
use Rattle.std.specs.Prelude.{◌≡◌, None}
use Rattle.room_ast.specs.Trees.{ModelTree}
use Rattle.room_wiring.specs.declared.tables.Tables.{Tables}
use Rattle.structure_check.specs.List.{all_rules}
use Rattle.structure_check.specs.Rules.{first_broken}
use Rattle.wiring_slots.specs.model_slots.Answers.{slots_in}
use Rattle.binding_expand.specs.Wirings.{IsWiringOf}
use Rattle.binding_expand.specs.Faults.{HasNoFault}
use Rattle.law_agreement.specs.Imports.{OwnersAreThere, PlacesAreLocal}
use Rattle.law_agreement.specs.Held.{PlacesAreContained}
use Rattle.law_agreement.specs.Mutual.{IsMutual}

-- over every model that keeps all rules and has no fault, and its wiring
abbrev pub ModelsHaveOwners : Type 0
ModelsHaveOwners = (m : ModelTree) (t : Tables) → first_broken all_rules m ≡ None → IsWiringOf m t → HasNoFault m → OwnersAreThere t

-- over every model, and tables with its slots
abbrev pub ModelsKeepPlacesLocal : Type 0
ModelsKeepPlacesLocal = (m : ModelTree) (t : Tables) → t.slots ≡ slots_in m → PlacesAreLocal t

-- over every model that keeps all rules, and tables with its slots
abbrev pub ModelsContainPlaces : Type 0
ModelsContainPlaces = (m : ModelTree) (t : Tables) → first_broken all_rules m ≡ None → t.slots ≡ slots_in m → PlacesAreContained t

-- over every model that keeps all rules and has no fault, and its wiring
abbrev pub ModelsAreMutual : Type 0
ModelsAreMutual = (m : ModelTree) (t : Tables) → first_broken all_rules m ≡ None → IsWiringOf m t → HasNoFault m → IsMutual t
