-- What the code keeps of a path and of a subsystem class.
use Rattle.std.specs.Prelude.{List, map, option_map}
use Rattle.room_ast.specs.Trees.{SubsystemItemTree, subsystem_item_view}
use Rattle.check_tables.specs.declared.class_tables.container.Container.{Container}
use Rattle.wiring_slots.specs.slot_names.Ways.{WayTree}
use Rattle.wiring_slots.specs.declared.slot_names.ways.Way.{Way}
use Rattle.wiring_slots.specs.declared.slot_names.wired.Wired.{Wired}

abbrev pub way_view : Way → WayTree
way_view w = record { steps = w.steps.items; place = option_map (λ c. c.now) w.place }

-- The items of a subsystem class, and what it knows of its references.
pub record WiredTree : Type 0 where
  pub items : List SubsystemItemTree
  pub container : Container

abbrev pub wired_view : Wired → WiredTree
wired_view w = record { items = map subsystem_item_view w.items.now; container = w.container.now }
