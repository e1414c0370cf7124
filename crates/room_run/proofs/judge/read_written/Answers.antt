use Rattle.std.proofs.Common.{sym, subst}
use Rattle.room_ast.specs.Trees.{model_view}
use Rattle.room_run.specs.Models.{no_memory}
use Rattle.room_run.specs.Reading.{HasItsTokens}
use Rattle.room_run.proofs.JudgeLemmas.{tree_found, no_model}
use Rattle.room_run.proofs.judge.read_written.Goals as goal

pub returns-in-Ok-parse-clause-ok : goal.returns-in-Ok-parse-clause-ok
returns-in-Ok-parse-clause-ok c =
    let tokens = subst (HasItsTokens c.args.text.now) (sym c.deref.ensures.value) c.in-Ok.ensures.ok in
    tree_found c.args.text.now c.deref.result.now (model_view c.in-Ok-parse.tree) tokens c.in-Ok-parse.ensures

pub returns-in-Err-Syntax-clause-err : goal.returns-in-Err-Syntax-clause-err
returns-in-Err-Syntax-clause-err c =
    let tokens = subst (HasItsTokens c.args.text.now) (sym c.deref.ensures.value) c.in-Ok.ensures.ok in
    no_model c.args.text.now c.deref.result.now c.in-Err-Syntax.line c.in-Err-Syntax.field-0 c.requires tokens c.in-Err-Syntax.ensures (cc)

pub returns-clause-err : goal.returns-clause-err
returns-clause-err c = no_memory
