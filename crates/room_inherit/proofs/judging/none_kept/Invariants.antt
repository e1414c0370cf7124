use Rattle.std.proofs.Common.{◌≡◌, map, take}
use Rattle.room_ast.specs.Trees.{class_view}
use Rattle.room_inherit.specs.Filling.{none_taken}
use Rattle.room_inherit.specs.Views.{charts_view}
use Rattle.room_inherit.proofs.judging.none_kept.Given as goal

abbrev pub invariant-loop-class : goal.invariant-loop-class
invariant-loop-class l = charts_view l.charts.items ≡ none_taken (map class_view (take l._class-index l.classes))
