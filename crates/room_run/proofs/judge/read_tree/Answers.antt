use Rattle.room_ast.specs.Trees.{model_view}
use Rattle.room_run.specs.Models.{no_memory}
use Rattle.room_run.proofs.JudgeLemmas.{tree_flat, base_rule_told}
use Rattle.room_run.proofs.judge.read_tree.Goals as goal

pub returns-in-Ok-flatten-clause-ok : goal.returns-in-Ok-flatten-clause-ok
returns-in-Ok-flatten-clause-ok c =
    tree_flat c.args.text.now (model_view c.in-Ok.written) (model_view c.in-Ok-flatten.tree) c.in-Ok.ensures.ok c.in-Ok-flatten.ensures.flat.0 c.in-Ok-flatten.ensures.flat.1

pub returns-in-Err-Rule-clause-err : goal.returns-in-Err-Rule-clause-err
returns-in-Err-Rule-clause-err c =
    base_rule_told c.args.text.now (model_view c.in-Ok.written) c.in-Err-Rule.rule c.in-Err-Rule.field-0 c.requires c.in-Ok.ensures.ok c.in-Err-Rule.ensures.flat (cc)

pub returns-in-Err-Memory-clause-err : goal.returns-in-Err-Memory-clause-err
returns-in-Err-Memory-clause-err c = no_memory
