-- Mapped paths by number.
use Rattle.std.specs.Prelude.{ℕ, nat_le, List, [], ◌∷◌, ◌++◌, Option, Some, option_map, option_and_then, unwrap_or, if◌then◌else◌}
use Rattle.std.specs.Option.{option_map_or}
use Rattle.room_ast.specs.MappingTree.{MappingTree, MappingOf, NestedTree, no_braces, in_braces, Mappings, no_mappings, mapping}
use Rattle.room_ast.specs.Trees.{SubsystemItemTree, AReference, ABinding, ALayer, AThread, AMapping}
use Rattle.room_ast.specs.declared.system.MappingPath.{MappingPath}
use Rattle.room_ast.specs.declared.system.Segment.{Segment}
use Rattle.room_ast.specs.model_parts.Classes.{number_in}
use Rattle.check_tables.specs.declared.class_tables.container.Container.{Container}
use Rattle.wiring_plan.specs.structure_plan.Parts.{number_of, class_behind}
use Rattle.room_kinds.specs.declared.numbers.ControllerId.{ControllerId}
use Rattle.wiring_slots.specs.declared.slot_tree.names.MappingPlan.{MappingPlan}
use Rattle.wiring_slots.specs.declared.slot_tree.names.StepPlan.{StepPlan}

-- How far a path has led: its steps, and the class in which it goes on, if there is one.
pub record WayTree : Type 0 where
  pub steps : List StepPlan
  pub place : Option Container

-- One step further, by the reference with this number in a class.
abbrev pub stepped : List Container → WayTree → Option ℕ → Container → ℕ → WayTree
stepped actors w index c r = record { steps = w.steps ++ record { reference = r; index = index } ∷ []; place = class_behind actors c r }

abbrev pub step_in : List Container → WayTree → Segment → Container → Option WayTree
step_in actors w s c = option_map (stepped actors w s.index c) (number_of c.reference_names s.name)

-- One segment further, if there is such a reference.
unfoldable pub further : List Container → WayTree → Segment → Option WayTree
further actors w s = option_and_then (step_in actors w s) w.place

-- So many segments further.
abbrev pub walked : List Container → WayTree → List Segment → Option WayTree
walked actors w [] = Some w
walked actors w (s ∷ ss) = option_and_then (λ v. walked actors v ss) (further actors w s)

-- Where a path leads.
abbrev pub path_end : List Container → WayTree → MappingPath → Option WayTree
path_end actors w path = walked actors w (path.first ∷ path.others)

-- A number of 8 bits; 0 for a larger one, which no thread of a model that breaks no rule has.
abbrev pub byte_or_zero : ℕ → ℕ
byte_or_zero n = if nat_le n 255 then n else 0

-- The controller of a thread, by its place among the threads.
abbrev pub controller_of : List (List ℕ) → List ℕ → ControllerId
controller_of threads name = record { 0 = byte_or_zero (unwrap_or (number_in threads name) 0) }

abbrev mutual
  -- A mapping by number, and then those in its braces; none where its path doesn't exist.
  pub mappings_of : List Container → List (List ℕ) → WayTree → MappingTree → List MappingPlan
  mappings_of actors threads w (MappingOf path thread nested) = option_map_or (mapped_to actors threads thread nested) (path_end actors w path) []

  pub mapped_to : List Container → List (List ℕ) → List ℕ → NestedTree → WayTree → List MappingPlan
  mapped_to actors threads thread no_braces v = record { steps = v.steps; controller = controller_of threads thread } ∷ []
  mapped_to actors threads thread (in_braces ms) v = record { steps = v.steps; controller = controller_of threads thread } ∷ all_mappings actors threads v ms

  pub all_mappings : List Container → List (List ℕ) → WayTree → Mappings → List MappingPlan
  all_mappings actors threads v no_mappings = []
  all_mappings actors threads v (mapping m ms) = mappings_of actors threads v m ++ all_mappings actors threads v ms

-- The mappings that an item of a subsystem class is.
abbrev pub item_mappings : List Container → List (List ℕ) → WayTree → SubsystemItemTree → List MappingPlan
item_mappings actors threads w (AReference r) = []
item_mappings actors threads w (ABinding b) = []
item_mappings actors threads w (ALayer l) = []
item_mappings actors threads w (AThread t) = []
item_mappings actors threads w (AMapping m) = mappings_of actors threads w m
