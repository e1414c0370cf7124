use Rattle.std.proofs.Common.{◌≡◌, map, drop}
use Rattle.std.specs.List.{list_all}
use Rattle.room_ast.specs.Trees.{class_view}
use Rattle.room_inherit.specs.Rules.{of_actor, class_is_plain}
use Rattle.room_inherit.proofs.rules.plain.all_are_plain.Given as goal

abbrev pub invariant-loop-class : goal.invariant-loop-class
invariant-loop-class l = list_all (of_actor class_is_plain) (map class_view (drop l.class-index l.classes)) ≡ list_all (of_actor class_is_plain) (map class_view l.classes)
