-- The structure of a model by number, as one walk over its classes makes it.
use Rattle.std.specs.Prelude.{ℕ, List, Option, unwrap_or}
use Rattle.std.specs.List.{filter_map}
use Rattle.std.specs.Option.{option_map_or}
use Rattle.room_ast.specs.Trees.{ClassTree, ActorTree, SubsystemTree}
use Rattle.room_ast.specs.model_parts.Classes.{as_actor, as_subsystem, as_system, wired_name}
use Rattle.room_ast.specs.model_parts.Ports.{structure_of}
use Rattle.check_tables.specs.declared.class_tables.container.Container.{Container}
use Rattle.wiring_plan.specs.structure_plan.Plans.{actor_plan, subsystem_plan, no_plan}
use Rattle.wiring_plan.specs.structure_plan.Steps.{made, found}
use Rattle.wiring_plan.specs.declared.structure_plan.plan.ClassPlan.{ClassPlan}
use Rattle.wiring_plan.specs.declared.structure_plan.plan.StructurePlan.{StructurePlan}

-- The plans of the actor classes among classes.
abbrev pub actor_plans : List Container → List ClassTree → List ClassPlan
actor_plans actors classes = made as_actor (λ c (a : ActorTree). actor_plan actors c (structure_of a)) classes actors

-- The plan of the first subsystem class with this name.
abbrev pub named_plan : List Container → List Container → List ClassTree → List ℕ → Option ClassPlan
named_plan actors subsystems classes name = found as_subsystem name (λ c (s : SubsystemTree). subsystem_plan actors c s.items) classes subsystems

-- The plan of the subsystem class that is wired.
abbrev pub wired_plan : List Container → List Container → List ClassTree → ClassPlan
wired_plan actors subsystems classes = option_map_or (λ name. unwrap_or (named_plan actors subsystems classes name) no_plan) (wired_name (filter_map as_system classes)) no_plan

-- The structure by number of these classes.
abbrev pub plan_in : List Container → List Container → List ClassTree → StructurePlan
plan_in actors subsystems classes = record { classes = actor_plans actors classes; subsystem = wired_plan actors subsystems classes }
