use Rattle.std.proofs.Common.{◌≡◌, map, drop}
use Rattle.room_ast.specs.Trees.{class_view}
use Rattle.room_inherit.specs.Filling.{filled, left_beside}
use Rattle.room_inherit.specs.Views.{flat_views}
use Rattle.room_inherit.proofs.filling.filled.Given as goal

abbrev pub invariant-loop-number : goal.invariant-loop-number
invariant-loop-number l = record {
  same : filled l.names (map class_view l.classes) (drop l.number-index l.order) (flat_views l.flats.items) ≡ filled l.names (map class_view l.classes) l.order (flat_views l.initial.flats.items);
  left : l.left ≡ left_beside (flat_views l.flats.items);
}
