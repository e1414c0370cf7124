-- What a model keeps that breaks none of the rules.
use Rattle.std.proofs.Common.{◌≡◌, true, None}
use Rattle.room_ast.specs.Trees.{ModelTree}
use Rattle.check_bindings.specs.binding_rules.Rules.{layers_are_known}
use Rattle.check_classes.specs.class_rules.Ends.{has_known_actors}
use Rattle.check_tables.specs.containment_rules.Circles.{actors_are_finite}
use Rattle.check_bindings.specs.structure_rules.Threads.{threads_are_few}
use Rattle.structure_check.specs.List.{all_rules}
use Rattle.structure_check.specs.Rules.{first_broken}
use Rattle.structure_check.specs.declared.flat_rule.FlatRule.TheVariants as rules
use Rattle.structure_check.proofs.KeptRules.{rule_kept}

module _ (m : ModelTree) (keeps : first_broken all_rules m ≡ None) where
  pub known : has_known_actors m ≡ true
  known = rule_kept m keeps rules.KnownActors

  pub finite : actors_are_finite m ≡ true
  finite = rule_kept m keeps rules.FiniteActors

  pub layers : layers_are_known m ≡ true
  layers = rule_kept m keeps rules.KnownLayers

  pub few_threads : threads_are_few m ≡ true
  few_threads = rule_kept m keeps rules.FewThreads
