-- The types of the slots that wait, and of what they have from their container, which `slot_tree` keeps to itself: they are told by the functions that give them.
use Rattle.std.specs.Prelude.{List}
use Rattle.wiring_slots.specs.slot_tree.Slots.{top, top_slots}

abbrev pub Given : {A B C : Type 0} → (A → B → C) → Type 0
Given {A} {B} {C} f = C

abbrev pub Listed : {A B C D : Type 0} → (A → B → C → List D) → Type 0
Listed {A} {B} {C} {D} f = D

-- what slots have from their container
abbrev pub Above : Type 0
Above = Given top

-- a slot that waits
abbrev pub Pending : Type 0
Pending = Listed top_slots
