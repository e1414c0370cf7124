-- The names by a walk over the classes are those of the model.
use Rattle.std.proofs.Common.{◌≡◌, ◌∙◌, ℕ, List, map, Option, Some, None, refl, ap}
use Rattle.std.specs.Prelude.{option_map, option_and_then, unwrap_or}
use Rattle.std.specs.Option.{option_map_or}
use Rattle.room_ast.specs.Trees.{ModelTree, SubsystemTree}
use Rattle.room_ast.specs.model_parts.Classes.{as_subsystem, systems, subsystems, wired_name, actor_names}
use Rattle.check_tables.specs.class_tables.Containers.{tables_of, tables_with, class_names, subsystem_containers, subsystem_container}
use Rattle.check_tables.specs.declared.class_tables.tables.Tables.{Tables}
use Rattle.wiring_plan.specs.structure_plan.Steps.{first_named}
use Rattle.wiring_plan.proofs.structure_plan.Walks.{found_all, or_of_map}
use Rattle.wiring_slots.specs.slot_names.Found.{wired_with, named_in, wired_in}
use Rattle.check_mappings.specs.mapping_rules.Rules.{thread_names}
use Rattle.check_tables.specs.declared.class_tables.container.Container.{Container}
use Rattle.wiring_slots.specs.declared.slot_tree.names.MappingPlan.{MappingPlan}
use Rattle.wiring_slots.specs.declared.slot_tree.names.ReferenceLabel.{ReferenceLabel}
use Rattle.wiring_slots.specs.declared.slot_names.names.WiredNames.{WiredNames}
use Rattle.wiring_slots.specs.slot_names.Names.{labels_of, controllers_of, mappings_in, names_with, nothing_wired, wired_of, wired_names}
use Rattle.wiring_slots.specs.slot_names.Wireds.{WiredTree}

found_is : {X P : Type 0} (f : X → P) (found_by : List ℕ → Option P) (first_by : List ℕ → Option X) (none : P) → ((name : List ℕ) → found_by name ≡ option_map f (first_by name)) → (name : Option (List ℕ))
    → unwrap_or (option_and_then found_by name) none ≡ option_map_or f (option_map_or first_by name None) none
found_is f found_by first_by none each None = refl
found_is {X} {P} f found_by first_by none each (Some n) = ap (λ (o : Option P). unwrap_or o none) (each n) ∙ or_of_map f (first_by n) none

own_wired : (m : ModelTree) → unwrap_or (wired_in m.classes (tables_of m).subsystems) nothing_wired ≡ wired_of m
unfolding tables_with class_names subsystem_containers
own_wired m =
    found_is (λ (s : SubsystemTree). wired_with (subsystem_container (actor_names m) s) s) (named_in m.classes (tables_of m).subsystems) (λ name. first_named name (subsystems m)) nothing_wired
    (λ name. found_all as_subsystem name wired_with (subsystem_container (actor_names m)) m.classes) (wired_name (systems m))

pub names_are : (m : ModelTree) (t : Tables) → t ≡ tables_of m → names_with t.actors (unwrap_or (wired_in m.classes t.subsystems) nothing_wired) ≡ wired_names m
unfolding wired_names
names_are m t e =
    ap (λ (t' : Tables). names_with t'.actors (unwrap_or (wired_in m.classes t'.subsystems) nothing_wired)) e
    ∙ ap (λ (w : WiredTree). names_with (tables_of m).actors w) (own_wired m)

-- the names of a model from those of its parts
pub same_names : (actors : List Container) (w : WiredTree) (classes : List (List ReferenceLabel)) (subsystem : List ReferenceLabel) (mappings : List MappingPlan) (controllers : List (List ℕ)) → classes ≡ map labels_of actors
    → subsystem ≡ labels_of w.container → mappings ≡ mappings_in actors w → controllers ≡ controllers_of (thread_names w.items)
    → ◌≡◌ {A = WiredNames} (record { slots = record { classes = classes; subsystem = subsystem }; mappings = mappings; controllers = controllers }) (names_with actors w)
same_names actors w classes subsystem mappings controllers a b c d = rw (a, b, c, d) refl
