use Rattle.std.proofs.Common.{map, ap}
use Rattle.room_ast.specs.Trees.{class_view, model_view}
use Rattle.room_inherit.proofs.Orders.{judges_model}
use Rattle.room_inherit.proofs.flattening.refinements_are_known.Goals as goal

pub returns : goal.returns
returns c =
    judges_model (model_view c.args.model.now) c.args.names.now _ c.args.order.now _ _ _ c.requires.names (ap (map class_view) c.as_slice-classes.ensures) c.as_slice.ensures.value c.requires.order c.in_ok-last.ensures c.in_ok-known.ensures
