use Rattle.std.proofs.Common.{Some, sym}
use Rattle.room_ast.specs.Trees.{model_view}
use Rattle.structure_check.specs.List.{rule_of}
use Rattle.structure_check.proofs.Asking.{told_broken}
use Rattle.structure_check.proofs.Lowest.{lowest_broken}
use Rattle.structure_check.proofs.checking.judged.Goals as goal

pub returns-in-Some-clause-answer : goal.returns-in-Some-clause-answer
returns-in-Some-clause-answer c = told_broken (model_view c.args.model.now) _ c.in-Some.rule c.in_ok-rule.ensures c.in-Some.is

pub returns-in-Some-clause-lowest : goal.returns-in-Some-clause-lowest
returns-in-Some-clause-lowest c =
    lowest_broken (model_view c.args.model.now) (Some (rule_of c.in-Some.rule).number)
    (sym (told_broken (model_view c.args.model.now) _ c.in-Some.rule c.in_ok-rule.ensures c.in-Some.is))
