use Rattle.std.proofs.Common.{◌≡◌, ◌++◌, drop, map}
use Rattle.std.specs.Vec.Iter.{into_iter_items}
use Rattle.room_ast.specs.Trees.{class_view}
use Rattle.wiring_plan.specs.wiring_classes.Walked.{classes_by}
use Rattle.wiring_plan.proofs.wiring_classes.classes.all_names.Given as goal

abbrev pub invariant-loop-class : goal.invariant-loop-class
invariant-loop-class l =
    l.all.items ++ classes_by l.names l.signals l.kinds (map class_view (drop l.class-index l.classes)) (into_iter_items l.left) ≡ classes_by l.names l.signals l.kinds (map class_view l.classes) l.fn.actors
