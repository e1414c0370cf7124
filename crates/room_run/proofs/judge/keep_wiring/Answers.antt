use Rattle.room_ast.specs.Trees.{model_view}
use Rattle.room_run.specs.Reading.{no_memory_for_tree}
use Rattle.room_run.proofs.JudgeLemmas.{wiring_told}
use Rattle.room_run.proofs.judge.keep_wiring.Goals as goal

pub returns-in-Err-Wiring-clause-err : goal.returns-in-Err-Wiring-clause-err
returns-in-Err-Wiring-clause-err c =
    wiring_told (model_view c.args.checked.now.model.now) c.in-Err-Wiring.fault c.in-Err-Wiring.field-0 c.requires c.in-Err-Wiring.ensures.expands (cc)

pub returns-in-Err-Memory-clause-err : goal.returns-in-Err-Memory-clause-err
returns-in-Err-Memory-clause-err c = no_memory_for_tree
