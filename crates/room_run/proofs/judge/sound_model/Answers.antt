use Rattle.room_ast.specs.Trees.{model_view}
use Rattle.room_run.proofs.JudgeLemmas.{tree_cause}
use Rattle.room_run.proofs.judge.sound_model.Goals as goal

pub returns-clause-err : goal.returns-clause-err
returns-clause-err c = tree_cause c.args.text.now (model_view c.in-Ok.tree) c.requires c.in-Ok.ensures.ok c.in-Err-judge_tree.ensures.err
