-- The parts of a structure by number, and the slots that stand for its references.
use Rattle.std.specs.Prelude.{ℕ, zero, suc, ◌+◌, ◌≤◌, ◌==◌, ◌&&◌, Bool, List, [], ◌∷◌, Option, Some, None, length, slice_get, slice_index_or, if◌then◌else◌}
use Rattle.room_kinds.specs.Structure.{is_imported}
use Rattle.room_kinds.specs.declared.numbers.SlotId.{SlotId}
use Rattle.room_wiring.specs.declared.slot.Slot.{Slot}
use Rattle.wiring_plan.specs.declared.structure_plan.plan.ClassPlan.{ClassPlan}
use Rattle.wiring_plan.specs.declared.structure_plan.plan.StructurePlan.{StructurePlan}

-- a class without parts
abbrev pub no_class : ClassPlan
no_class = record { ports = []; references = []; bindings = []; layers = [] }

-- the actor class of a number
abbrev pub class_plan : StructurePlan → ℕ → ClassPlan
class_plan plan n = slice_index_or plan.classes n no_class

-- the ports of each class are so few that 16 bits number them, and 32 bits those of 65,536 slots
abbrev pub HasFewPorts : StructurePlan → Type 0
HasFewPorts plan = (class : ℕ) → length (class_plan plan class).ports ≤ 65535

-- containers are numbered: the subsystem is 0, and the inside of slot s is s + 1
abbrev pub container_of_parent : Option SlotId → ℕ
container_of_parent None = 0
container_of_parent (Some s) = s.0 + 1

-- the container that a slot stands in
abbrev pub container_of : Slot → ℕ
container_of x = container_of_parent x.parent

-- the class of what stands inside a slot; an imported slot has no inside
abbrev pub inside_of : StructurePlan → Option Slot → ClassPlan
inside_of plan None = no_class
inside_of plan (Some x) = if is_imported x.kind then no_class else class_plan plan x.class

-- the class whose bindings and layer connections a container has
abbrev pub container_class : StructurePlan → List Slot → ℕ → ClassPlan
container_class plan slots zero = plan.subsystem
container_class plan slots (suc s) = inside_of plan (slice_get slots s)

-- whether a slot stands for this reference of this container
abbrev pub is_child : ℕ → ℕ → Slot → Bool
is_child c r x = (container_of x == c) && (x.reference == r)

-- the numbers of the slots that stand for a reference of a container, in order of index; the first slot listed has the number n
abbrev pub children_from : ℕ → List Slot → ℕ → ℕ → List ℕ
children_from n [] c r = []
children_from n (x ∷ xs) c r = if is_child c r x then n ∷ children_from (n + 1) xs c r else children_from (n + 1) xs c r

abbrev pub children : List Slot → ℕ → ℕ → List ℕ
children slots c r = children_from 0 slots c r
