use Rattle.std.proofs.Common.{None, sym}
use Rattle.room_ast.specs.Trees.{model_view}
use Rattle.structure_check.proofs.KeptRules.{all_fall}
use Rattle.structure_check.proofs.Lowest.{lowest_broken}
use Rattle.structure_check.proofs.checking.kept.Goals as goal

pub returns-clause-answer : goal.returns-clause-answer
returns-clause-answer c = (c.requires.kept, c.in_ok-checked.ensures.model, c.in_ok-checked.ensures.classes)

pub returns-clause-lowest : goal.returns-clause-lowest
returns-clause-lowest c = lowest_broken (model_view c.args.model.now) None (sym c.requires.kept)

pub returns-clause-references : goal.returns-clause-references
returns-clause-references c = all_fall (model_view c.args.model.now) c.requires.kept
