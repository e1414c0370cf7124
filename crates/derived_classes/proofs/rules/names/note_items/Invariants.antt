use Rattle.std.proofs.Common.{◌≡◌, drop}
use Rattle.room_ast.specs.ChartTree.{graph_view}
use Rattle.derived_classes.specs.Searching.{note_items}
use Rattle.derived_classes.specs.Views.{transition_names}
use Rattle.derived_classes.proofs.rules.names.note_items.Given as goal

abbrev pub invariant-loop-item : goal.invariant-loop-item
invariant-loop-item l = note_items (graph_view (drop l.item-index l.graph)) (transition_names l.names) ≡ note_items (graph_view l.graph) (transition_names l.initial.names)
