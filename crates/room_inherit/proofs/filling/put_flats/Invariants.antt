use Rattle.std.proofs.Common.{◌≡◌, map, length}
use Rattle.room_ast.specs.Trees.{class_view}
use Rattle.room_inherit.specs.Filling.{replaced}
use Rattle.room_inherit.specs.Views.{flat_views}
use Rattle.room_inherit.proofs.filling.put_flats.Given as goal

abbrev pub invariant-loop-flat : goal.invariant-loop-flat
invariant-loop-flat l = replaced (map class_view l.classes.items) (flat_views l.flats.items) ≡ replaced (map class_view l.initial.classes.items) (flat_views l.initial.flats.items)

abbrev pub decreases-loop-flat : goal.decreases-loop-flat
decreases-loop-flat l = length l.flats.items
