-- The controllers of a model, the names of its slots and its mappings.
use Rattle.std.specs.Prelude.{ℕ, ◌==◌, List, [], ◌∷◌, map, length, codes, Some, if◌then◌else◌}
use Rattle.std.specs.List.{flat_map}
use Rattle.std.specs.Option.{option_map_or}
use Rattle.room_ast.specs.Trees.{ModelTree, SubsystemTree}
use Rattle.room_ast.specs.model_parts.Classes.{actor_names}
use Rattle.room_ast.specs.model_parts.References.{is_replicated}
use Rattle.room_ast.specs.declared.model_parts.entries.ReferenceEntry.{ReferenceEntry}
use Rattle.check_tables.specs.class_tables.Containers.{subsystem_container, tables_of}
use Rattle.check_tables.specs.declared.class_tables.container.Container.{Container}
use Rattle.check_mappings.specs.mapping_rules.Rules.{thread_names}
use Rattle.wiring_plan.specs.structure_plan.Plans.{wired_subsystem}
use Rattle.wiring_plan.specs.wiring_classes.Labels.{label_of}
use Rattle.wiring_plan.specs.wiring_classes.Parts.{named}
use Rattle.wiring_slots.specs.declared.slot_tree.names.MappingPlan.{MappingPlan}
use Rattle.wiring_slots.specs.declared.slot_tree.names.ReferenceLabel.{ReferenceLabel}
use Rattle.wiring_slots.specs.slot_names.Ways.{item_mappings}
use Rattle.wiring_slots.specs.slot_names.Wireds.{WiredTree}
use Rattle.wiring_slots.specs.declared.slot_names.names.WiredNames.{WiredNames}

-- The label of a reference: its name, and whether it has a number.
abbrev pub reference_label : List ℕ → ReferenceEntry → ReferenceLabel
reference_label name r = record { name = label_of name; replicated = is_replicated r }

-- The labels of the references of a class, by number.
abbrev pub labels_of : Container → List ReferenceLabel
labels_of c = named reference_label c.reference_names c.references

-- The names of the controllers: the threads in order of declaration, or the one `default` where there is none.
abbrev pub controllers_of : List (List ℕ) → List (List ℕ)
controllers_of threads = if length threads == 0 then codes "default" ∷ [] else map label_of threads

-- The mappings of a subsystem class in order of declaration, one before those in its braces.
abbrev pub mappings_in : List Container → WiredTree → List MappingPlan
mappings_in actors w = flat_map (item_mappings actors (thread_names w.items) (record { steps = []; place = Some w.container })) w.items

-- The names of a model whose actor classes know this, and whose subsystem class is this.
abbrev pub names_with : List Container → WiredTree → WiredNames
names_with actors w = record {
  slots = record { classes = map labels_of actors; subsystem = labels_of w.container };
  mappings = mappings_in actors w;
  controllers = controllers_of (thread_names w.items);
}

-- A subsystem class without anything.
abbrev pub nothing_wired : WiredTree
nothing_wired = record { items = []; container = record { port_names = []; ports = []; reference_names = []; references = [] } }

-- The subsystem class that is wired, with what it knows of its references.
abbrev pub wired_of : ModelTree → WiredTree
wired_of m = option_map_or (λ (s : SubsystemTree). record { items = s.items; container = subsystem_container (actor_names m) s }) (wired_subsystem m) nothing_wired

-- The controllers, the names of the slots and the mappings of a model.
unfoldable pub wired_names : ModelTree → WiredNames
wired_names m = names_with (tables_of m).actors (wired_of m)
