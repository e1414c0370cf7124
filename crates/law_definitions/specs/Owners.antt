-- Who owns what stands at the end of a way, in the words of the language: the controller of the longest mapped
-- path that leads there or to a container of it, of equally long ones the last declared; controller 0 where none does.
-- The slots of a model are made by going into references, one after another: the mappings that lead on are
-- kept, and the last of those that end at a slot gives its owner, else its container's owner stays
-- (`owner_along`). The laws `owners_have_the_longest_mapping`: so it is along every way, and of every slot of a structure.
use Rattle.std.specs.Prelude.{◌≡◌, ◌⊎◌, ℕ, zero, suc, ◌≤◌, Bool, true, false, ◌&&◌, nat_le, List, [], ◌∷◌, ◌++◌, Some, length, map, slice_get, if◌then◌else◌}
use Rattle.std.specs.List.{enumerate_from, flat_map, range_with_len}
use Rattle.room_kinds.specs.declared.numbers.ControllerId.{ControllerId}
use Rattle.room_kinds.specs.declared.structure.ReferenceKind.{ReferenceKind}
use Rattle.room_kinds.specs.Structure.{is_imported}
use Rattle.room_wiring.specs.declared.slot.Slot.{Slot}
use Rattle.wiring_plan.specs.declared.structure_plan.plan.ReferencePlan.{ReferencePlan}
use Rattle.wiring_plan.specs.declared.structure_plan.plan.StructurePlan.{StructurePlan}
use Rattle.wiring_slots.specs.declared.slot_tree.names.MappingPlan.{MappingPlan}
use Rattle.wiring_slots.specs.declared.slot_tree.names.StepPlan.{StepPlan}
use Rattle.wiring_slots.specs.declared.slot_tree.names.SlotNames.{SlotNames}
use Rattle.wiring_slots.specs.slot_tree.Owners.{step_fits, trails_at, owner_at}
use Rattle.wiring_slots.specs.slot_tree.Slots.{references_of_class, slots_of}

-- a way from the subsystem class down: references by number, each with an index
abbrev pub Way : Type 0
Way = List (ℕ × ℕ)

-- each step is the way's reference, with its index or with none
abbrev pub goes_along : List StepPlan → Way → Bool
goes_along [] way = true
goes_along (s ∷ ss) [] = false
goes_along (s ∷ ss) (w ∷ way) = step_fits s w.0 w.1 && goes_along ss way

-- a mapped path leads along a way, to the slot at its end or to a container of it; one without a step leads nowhere
abbrev pub leads_along : List StepPlan → Way → Bool
leads_along ss way = nat_le 1 (length ss) && goes_along ss way

-- the mapping of this number decides: it leads along the way, no longer one does, and none of its length that is declared later
pub record Decides (mappings : List MappingPlan) (way : Way) (k : ℕ) (m : MappingPlan) : Type 0 where
  pub is : slice_get mappings k ≡ Some m
  pub leads : leads_along m.steps way ≡ true
  pub longest : (j : ℕ) (n : MappingPlan) → slice_get mappings j ≡ Some n → leads_along n.steps way ≡ true → length n.steps ≤ length m.steps
  pub last : (j : ℕ) (n : MappingPlan) → slice_get mappings j ≡ Some n → leads_along n.steps way ≡ true → length n.steps ≡ length m.steps → j ≤ k

-- no mapping leads along a way
abbrev pub NoneLeads : List MappingPlan → Way → Type 0
NoneLeads mappings way = (j : ℕ) (n : MappingPlan) → slice_get mappings j ≡ Some n → leads_along n.steps way ≡ false

-- the controller of the mapping that decides, or controller 0
abbrev pub IsOwnerOf : List MappingPlan → Way → ControllerId → Type 0
IsOwnerOf mappings way c =
    ((k : ℕ) × (m : MappingPlan) × Decides mappings way k m × (c ≡ m.controller)) ⊎ (NoneLeads mappings way × (c ≡ record { 0 = 0 }))

-- what a walk keeps of a mapping, which leads on: its number, and how many of its steps were gone
abbrev Kept : {A B C D E : Type 0} → (A → B → C → D → List E) → Type 0
Kept {A} {B} {C} {D} {E} f = E

abbrev pub Trail : Type 0
Trail = Kept trails_at

-- all mappings lead on at the beginning
abbrev pub all_trails : List MappingPlan → List Trail
all_trails mappings = map (λ i. record { mapping = i; steps = 0 }) (range_with_len 0 (length mappings))

-- the owner at the end of a way, where this is the owner so far and these mappings lead on
abbrev pub owner_along : List MappingPlan → ControllerId → List Trail → Way → ControllerId
owner_along mappings owner trails [] = owner
owner_along mappings owner trails (w ∷ way) =
    owner_along mappings (owner_at mappings owner (trails_at mappings w.0 w.1 trails)) (trails_at mappings w.0 w.1 trails) way

-- over all mappings and every way: the owner that is found along it is the one of the longest mapped path
abbrev pub OwnersHaveTheLongestMapping : Type 0
OwnersHaveTheLongestMapping =
    (mappings : List MappingPlan) (way : Way) → IsOwnerOf mappings way (owner_along mappings (record { 0 = 0 }) (all_trails mappings) way)

-- ---- slots

-- where a slot of a structure stands: the way to it and to its container, and its kind
pub record Stand : Type 0 where
  pub way : Way
  pub container : Way
  pub kind : ReferenceKind

-- the references of a class with their numbers and indexes, in order of declaration and index
abbrev pub steps_into : List ReferencePlan → List ((ℕ × ℕ) × ReferencePlan)
steps_into references = flat_map (λ (r : ℕ × ReferencePlan). map (λ i. ((r.0, i), r.1)) (range_with_len 0 r.1.count)) (enumerate_from 0 references)

-- a slot and those inside it, looked into so deep; an imported slot has none
abbrev pub stands_below : StructurePlan → ℕ → Way → (ℕ × ℕ) × ReferencePlan → List Stand
stands_below plan zero container c = record { way = container ++ c.0 ∷ []; container = container; kind = c.1.kind } ∷ []
stands_below plan (suc depth) container c =
    record { way = container ++ c.0 ∷ []; container = container; kind = c.1.kind }
    ∷ (if is_imported c.1.kind then [] else flat_map (stands_below plan depth (container ++ c.0 ∷ [])) (steps_into (references_of_class plan c.1.class)))

-- all slots of a structure, depth first, in order of declaration and index
abbrev pub stands_of : StructurePlan → List Stand
stands_of plan = flat_map (stands_below plan (length plan.classes) []) (steps_into plan.subsystem.references)

-- an imported slot has its container's owner
abbrev pub owning_way : Stand → Way
owning_way s = if is_imported s.kind then s.container else s.way

-- slot by slot, the owners are those of the longest mapped paths
abbrev pub AreOwned : List MappingPlan → List Slot → List Stand → Type 0
AreOwned mappings [] [] = Unit {0}
AreOwned mappings [] (s ∷ ss) = ⊥
AreOwned mappings (x ∷ xs) [] = ⊥
AreOwned mappings (x ∷ xs) (s ∷ ss) = IsOwnerOf mappings (owning_way s) x.owner × AreOwned mappings xs ss

-- over every structure, whatever its names and mappings
abbrev pub SlotsAreOwned : Type 0
SlotsAreOwned =
    (plan : StructurePlan) (names : SlotNames) (mappings : List MappingPlan) → AreOwned mappings (slots_of plan names mappings) (stands_of plan)
