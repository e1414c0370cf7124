use Rattle.std.proofs.Common.{◌≡◌, ◌∙◌, ap, map, subst}
use Rattle.std.specs.Prelude.{IfOk}
use Rattle.room_ast.specs.Trees.{class_view}
use Rattle.room_wiring.specs.declared.names.SignalNames.{SignalNames}
use Rattle.check_scopes.specs.declared.class_scopes.signals.SignalTable.{SignalTable}
use Rattle.check_scopes.specs.class_scopes.Signals.{map_table}
use Rattle.wiring_plan.specs.wiring_classes.Parts.{labelled}
use Rattle.wiring_plan.specs.wiring_classes.Walked.{classes_by}
use Rattle.wiring_plan.proofs.wiring_classes.classes.named_in.Goals as goal

pub returns : goal.returns
returns c =
    let by : SignalTable SignalNames → Type 0 = λ table. IfOk c.all_names.result (λ v. v.items ≡ classes_by c.args.tables.names table c.args.kinds.now (map class_view c.args.classes.now) c.args.tables.actors) in
    subst by (c.in_ok-labelled.ensures ∙ ap (map_table labelled) c.in_ok-signals.ensures) c.all_names.ensures
