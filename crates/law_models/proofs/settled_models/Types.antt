-- The types that `slot_tree` keeps to itself, told by the functions that give them: a mapping that leads to a slot, what slots have from their container, a slot that waits.
use Rattle.std.specs.Prelude.{List}
use Rattle.wiring_slots.specs.slot_tree.Owners.{trails_at}
use Rattle.wiring_slots.specs.slot_tree.Slots.{top, top_slots}

abbrev Given : {A B C : Type 0} → (A → B → C) → Type 0
Given {A} {B} {C} f = C

abbrev Listed : {A B C D : Type 0} → (A → B → C → List D) → Type 0
Listed {A} {B} {C} {D} f = D

abbrev Kept : {A B C D E : Type 0} → (A → B → C → D → List E) → Type 0
Kept {A} {B} {C} {D} {E} f = E

-- a mapping that leads to a slot or through it, and how many of its steps have led there
abbrev pub Trail : Type 0
Trail = Kept trails_at

-- what slots have from their container
abbrev pub Above : Type 0
Above = Given top

-- a slot that waits
abbrev pub Pending : Type 0
Pending = Listed top_slots
