-- The rules of ROOM models, in order of their numbers.
use Rattle.std.specs.Prelude.{◌&&◌, Bool, List, [], ◌∷◌, map}
use Rattle.room_ast.specs.Trees.{ModelTree}
use Rattle.check_tables.specs.class_tables.Containers.{tables_of}
use Rattle.structure_check.specs.Rules.{Rule}
use Rattle.structure_check.specs.declared.flat_rule.FlatRule.{FlatRule}
use Rattle.structure_check.specs.declared.flat_rule.FlatRule.TheVariants as rules
use Rattle.check_classes.specs.class_rules.Names.{has_one_system, has_class_names, has_part_names, has_message_names, has_field_names}
use Rattle.check_classes.specs.class_rules.Types.{has_known_types, has_fitting_values}
use Rattle.check_classes.specs.class_rules.Ends.{has_known_protocols, has_own_ports, has_known_actors}
use Rattle.check_tables.specs.containment_rules.Circles.{data_is_finite, actors_are_finite}
use Rattle.check_classes.specs.class_sizes.Rules.{has_small_classes}
use Rattle.check_mappings.specs.count_rules.Counts.{has_few_parts}
use Rattle.check_bindings.specs.structure_rules.AnyPlaces.{any_places_at_end_ports}
use Rattle.check_bindings.specs.structure_rules.Imported.{imported_classes_have_end_ports}
use Rattle.check_bindings.specs.structure_rules.Replication.{replicates_in_range}
use Rattle.check_bindings.specs.structure_rules.Subsystems.{subsystem_references_are_plain}
use Rattle.check_bindings.specs.structure_rules.Threads.{threads_are_few}
use Rattle.check_bindings.specs.binding_rules.Rules.{any_places_bind_once, binding_sides_agree, binding_sides_exist, layers_are_known}
use Rattle.check_mappings.specs.mapping_rules.Rules.{mappings_are_allowed, mappings_are_distinct, mappings_are_known}

-- Every mapping names a reference path that exists, with indexes in range, and a thread, and no path is mapped twice.
abbrev pub mappings_hold : ModelTree → Bool
mappings_hold m = mappings_are_known m && mappings_are_distinct m

-- The number of each rule, and what it asks.
abbrev pub rule_of : FlatRule → Rule
rule_of rules.OneSystem = record { number = 1; keeps = has_one_system }
rule_of rules.ClassNames = record { number = 2; keeps = has_class_names }
rule_of rules.PartNames = record { number = 3; keeps = has_part_names }
rule_of rules.MessageNames = record { number = 4; keeps = has_message_names }
rule_of rules.FieldNames = record { number = 5; keeps = has_field_names }
rule_of rules.KnownTypes = record { number = 6; keeps = has_known_types }
rule_of rules.FiniteData = record { number = 7; keeps = data_is_finite }
rule_of rules.SmallClasses = record { number = 8; keeps = has_small_classes }
rule_of rules.FittingValues = record { number = 9; keeps = has_fitting_values }
rule_of rules.KnownProtocols = record { number = 10; keeps = has_known_protocols }
rule_of rules.OwnPorts = record { number = 11; keeps = has_own_ports }
rule_of rules.KnownActors = record { number = 12; keeps = has_known_actors }
rule_of rules.FiniteActors = record { number = 13; keeps = actors_are_finite }
rule_of rules.Replication = record { number = 14; keeps = λ m. replicates_in_range (tables_of m) }
rule_of rules.AnyPlacesAtEnds = record { number = 15; keeps = λ m. any_places_at_end_ports (tables_of m) }
rule_of rules.PlainSubsystems = record { number = 16; keeps = λ m. subsystem_references_are_plain (tables_of m) }
rule_of rules.ImportedEnds = record { number = 17; keeps = λ m. imported_classes_have_end_ports (tables_of m) }
rule_of rules.BindingSides = record { number = 18; keeps = binding_sides_exist }
rule_of rules.SidesAgree = record { number = 19; keeps = binding_sides_agree }
rule_of rules.AnyPlacesOnce = record { number = 20; keeps = any_places_bind_once }
rule_of rules.KnownLayers = record { number = 21; keeps = layers_are_known }
rule_of rules.FewThreads = record { number = 22; keeps = threads_are_few }
rule_of rules.KnownMappings = record { number = 23; keeps = mappings_hold }
rule_of rules.AllowedMappings = record { number = 24; keeps = mappings_are_allowed }
rule_of rules.FewParts = record { number = 25; keeps = has_few_parts }

-- All rules by name, in order of their numbers.
abbrev pub flat_rules : List FlatRule
flat_rules =
    rules.OneSystem ∷ rules.ClassNames ∷ rules.PartNames ∷ rules.MessageNames ∷ rules.FieldNames
    ∷ rules.KnownTypes ∷ rules.FiniteData ∷ rules.SmallClasses ∷ rules.FittingValues
    ∷ rules.KnownProtocols ∷ rules.OwnPorts ∷ rules.KnownActors ∷ rules.FiniteActors
    ∷ rules.Replication ∷ rules.AnyPlacesAtEnds ∷ rules.PlainSubsystems ∷ rules.ImportedEnds
    ∷ rules.BindingSides ∷ rules.SidesAgree ∷ rules.AnyPlacesOnce ∷ rules.KnownLayers
    ∷ rules.FewThreads ∷ rules.KnownMappings ∷ rules.AllowedMappings ∷ rules.FewParts ∷ []

-- All rules that are checked, in order of their numbers.
unfoldable pub all_rules : List Rule
all_rules = map rule_of flat_rules
