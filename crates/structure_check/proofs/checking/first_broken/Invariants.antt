use Rattle.std.proofs.Common.{◌≡◌, ◌<◌, true, map, drop}
use Rattle.room_ast.specs.Trees.{model_view}
use Rattle.check_tables.specs.containment_rules.Circles.{data_is_finite}
use Rattle.structure_check.specs.Rules.{first_broken}
use Rattle.structure_check.specs.List.{rule_of, all_rules}
use Rattle.structure_check.proofs.checking.first_broken.Given as goal

-- the first rule that is broken is one of those that are still to be asked, and behind the seventh data classes are finite
abbrev pub invariant-loop-rule : goal.invariant-loop-rule
invariant-loop-rule l = record {
  left : first_broken all_rules (model_view l.model) ≡ first_broken (map rule_of (drop l.rule-index l.rules)) (model_view l.model);
  finite : 6 < l.rule-index → data_is_finite (model_view l.model) ≡ true;
}
