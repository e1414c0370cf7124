use Rattle.std.proofs.Common.{◌∙◌, ap, List, map}
use Rattle.room_ast.specs.Trees.{class_view, model_view}
use Rattle.room_ast.specs.declared.model.Class.{Class}
use Rattle.check_bindings.proofs.binding_rules.Steps.{walks, walks_are}
use Rattle.check_bindings.proofs.binding_rules.walks.connections_hold.Goals as goal

pub returns : goal.returns
returns c = c.classes_hold.ensures ∙ ap (λ (ks : List Class). walks c.args.rule (map class_view ks) c.args.tables.now) c.as_slice.ensures ∙ walks_are c.args.rule (model_view c.args.model.now) c.args.tables.now c.requires
