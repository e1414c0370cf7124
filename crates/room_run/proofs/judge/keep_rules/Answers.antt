use Rattle.room_ast.specs.Trees.{model_view}
use Rattle.room_run.specs.Reading.{no_memory_for_tree}
use Rattle.room_run.proofs.JudgeLemmas.{rule_told}
use Rattle.room_run.proofs.judge.keep_rules.Goals as goal

pub returns-in-Err-Rule-clause-err : goal.returns-in-Err-Rule-clause-err
returns-in-Err-Rule-clause-err c = rule_told (model_view c.args.tree.now) c.in-Err-Rule.rule c.in-Err-Rule.field-0 c.in-Err-Rule.ensures.lowest (cc)

pub returns-in-Err-Memory-clause-err : goal.returns-in-Err-Memory-clause-err
returns-in-Err-Memory-clause-err c = no_memory_for_tree
