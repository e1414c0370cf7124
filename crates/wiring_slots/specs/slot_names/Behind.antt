-- Paths that go on behind the steps of others.
use Rattle.std.specs.Prelude.{◌≡◌, List, [], ◌++◌, Option, option_map}
use Rattle.room_ast.specs.declared.system.MappingPath.{MappingPath}
use Rattle.check_tables.specs.declared.class_tables.container.Container.{Container}
use Rattle.wiring_slots.specs.declared.slot_tree.names.MappingPlan.{MappingPlan}
use Rattle.wiring_slots.specs.declared.slot_tree.names.StepPlan.{StepPlan}
use Rattle.wiring_slots.specs.slot_names.Ways.{WayTree, path_end}
use Rattle.wiring_slots.specs.slot_tree.Continuing.{last_steps}

-- A way behind other steps.
abbrev pub behind : List StepPlan → WayTree → WayTree
behind before w = record { steps = before ++ w.steps; place = w.place }

-- Behind whatever steps a path begins in a class, it leads there, with the steps that it adds.
pub record LeadsBehind (actors : List Container) (place : Option Container) (path : MappingPath) (end : Option WayTree) : Type 0 where
  pub leads : (before : List StepPlan) → path_end actors (record { steps = before; place = place }) path ≡ option_map (behind before) end

-- Steps that go on from others.
pub record Longer (short long : List StepPlan) : Type 0 where
  pub rest : List StepPlan
  pub is : long ≡ short ++ rest

-- The path of the last mapping begins with these steps.
abbrev pub LastBegins : List StepPlan → List MappingPlan → Type 0
LastBegins before plans = Longer before (last_steps [] plans)

-- Mappings are added, and the path of the last one goes on to begin with these steps.
pub record AddsBehind (before : List StepPlan) (old new more : List MappingPlan) : Type 0 where
  pub added : new ≡ old ++ more
  pub begins : LastBegins before new
