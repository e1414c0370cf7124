-- What a model keeps that breaks none of the rules.
use Rattle.std.proofs.Common.{◌≡◌, true, None}
use Rattle.room_ast.specs.Trees.{ModelTree}
use Rattle.check_classes.specs.class_rules.Names.{has_part_names, has_message_names}
use Rattle.check_tables.specs.class_tables.Containers.{tables_of}
use Rattle.check_bindings.specs.structure_rules.Subsystems.{subsystem_references_are_plain}
use Rattle.structure_check.specs.List.{all_rules}
use Rattle.structure_check.specs.Rules.{first_broken}
use Rattle.structure_check.specs.declared.flat_rule.FlatRule.TheVariants as rules
use Rattle.structure_check.proofs.KeptRules.{rule_kept}

module _ (m : ModelTree) (keeps : first_broken all_rules m ≡ None) where
  pub parts : has_part_names m ≡ true
  parts = rule_kept m keeps rules.PartNames

  pub messages : has_message_names m ≡ true
  messages = rule_kept m keeps rules.MessageNames

  pub plain : subsystem_references_are_plain (tables_of m) ≡ true
  plain = rule_kept m keeps rules.PlainSubsystems
