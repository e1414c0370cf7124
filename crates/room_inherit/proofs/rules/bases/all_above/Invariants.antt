use Rattle.std.proofs.Common.{◌≡◌, map, take}
use Rattle.std.specs.Option.{option_to_list}
use Rattle.room_ast.specs.Trees.{class_view}
use Rattle.room_inherit.proofs.Bases.{above_in}
use Rattle.room_inherit.proofs.rules.bases.all_above.Given as goal

abbrev pub invariant-loop-class : goal.invariant-loop-class
invariant-loop-class l = l.extended.items ≡ map (λ c. option_to_list (above_in l.names (class_view c))) (take l.class-index l.classes)
