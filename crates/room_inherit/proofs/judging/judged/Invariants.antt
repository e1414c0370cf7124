use Rattle.std.proofs.Common.{◌≡◌, map, drop}
use Rattle.room_ast.specs.Trees.{class_view}
use Rattle.room_inherit.specs.Filling.{none_taken}
use Rattle.room_inherit.specs.Judging.{judged}
use Rattle.room_inherit.specs.Views.{charts_view}
use Rattle.room_inherit.proofs.judging.judged.Given as goal

abbrev pub invariant-loop-place : goal.invariant-loop-place
invariant-loop-place l =
    judged l.names (map class_view l.classes) l.last l.place (drop l.place l.order) (charts_view l.charts.items) ≡ judged l.names (map class_view l.classes) l.last 0 l.order (none_taken (map class_view l.classes))
