use Rattle.std.proofs.Common.{◌≡◌, map, drop}
use Rattle.std.specs.List.{list_all}
use Rattle.room_ast.specs.Trees.{class_view}
use Rattle.derived_classes.specs.Derived.{refines_once}
use Rattle.room_inherit.specs.Rules.{of_actor}
use Rattle.room_inherit.proofs.rules.once.all_refine_once.Given as goal

abbrev pub invariant-loop-class : goal.invariant-loop-class
invariant-loop-class l = list_all (of_actor refines_once) (map class_view (drop l.class-index l.classes)) ≡ list_all (of_actor refines_once) (map class_view l.classes)
