-- The faults of the wiring of a model.
use Rattle.std.specs.Prelude.{◌≡◌, ℕ, ◌<◌, true, length}
use Rattle.room_ast.specs.Trees.{ModelTree}
use Rattle.wiring_plan.specs.structure_plan.Plans.{plan_of}
use Rattle.wiring_slots.specs.slot_tree.Places.{has_too_many_places}
use Rattle.wiring_slots.specs.model_slots.Answers.{slots_in}
use Rattle.wiring_places.specs.place_rules.Pairs.{lacks_place}
use Rattle.wiring_joins.specs.join_laws.Sockets.{JoinsSockets, JoinsAway}
use Rattle.binding_expand.specs.Wirings.{places_of, pairs_of}
use Rattle.binding_expand.specs.declared.fault.WiringFault.{WiringFault}
use Rattle.binding_expand.specs.declared.fault.WiringFault.TheVariants as faults

-- The number by which a fault is told.
abbrev pub number : WiringFault → ℕ
number faults.TooManySlots = 1
number faults.TooManyPlaces = 2
number faults.NoFreePlace = 3
number faults.SocketPair = 4
number faults.SocketAway = 5

-- A model has a fault: more than 4,096 slots; more than 65,536 places of service access points and of ports with a number or none; a binding of some container that pairs nothing; two sockets that are joined to each other; an end place joined to a socket whose slot has another owner.
abbrev pub HasFault : ModelTree → WiringFault → Type 0
HasFault m faults.TooManySlots = 4096 < length (slots_in m)
HasFault m faults.TooManyPlaces = has_too_many_places (plan_of m) (slots_in m) ≡ true
HasFault m faults.NoFreePlace = lacks_place (plan_of m) (slots_in m) ≡ true
HasFault m faults.SocketPair = JoinsSockets (places_of m) (pairs_of m)
HasFault m faults.SocketAway = JoinsAway (slots_in m) (places_of m) (pairs_of m)

-- A model has this fault, and none of a lower number.
pub record IsLowestFault (m : ModelTree) (fault : WiringFault) : Type 0 where
  pub has : HasFault m fault
  pub lowest : (lower : WiringFault) → number lower < number fault → HasFault m lower → ⊥

-- A model has none of the faults.
abbrev pub HasNoFault : ModelTree → Type 0
HasNoFault m = (fault : WiringFault) → HasFault m fault → ⊥
