-- The subsystem class that is wired, as a walk over the classes finds it.
use Rattle.std.specs.Prelude.{ℕ, List, Option, option_and_then}
use Rattle.std.specs.List.{filter_map}
use Rattle.room_ast.specs.Trees.{ClassTree, SubsystemTree}
use Rattle.room_ast.specs.model_parts.Classes.{as_subsystem, as_system, wired_name}
use Rattle.check_tables.specs.declared.class_tables.container.Container.{Container}
use Rattle.wiring_plan.specs.structure_plan.Steps.{found}
use Rattle.wiring_slots.specs.slot_names.Wireds.{WiredTree}

abbrev pub wired_with : Container → SubsystemTree → WiredTree
wired_with c s = record { items = s.items; container = c }

-- The first subsystem class with this name.
abbrev pub named_in : List ClassTree → List Container → List ℕ → Option WiredTree
named_in classes subsystems name = found as_subsystem name wired_with classes subsystems

-- The subsystem class that is wired.
abbrev pub wired_in : List ClassTree → List Container → Option WiredTree
wired_in classes subsystems = option_and_then (named_in classes subsystems) (wired_name (filter_map as_system classes))
