use Rattle.std.proofs.Common.{◌≡◌, drop}
use Rattle.std.specs.List.{list_all}
use Rattle.room_inherit.specs.Ordering.{is_placed}
use Rattle.room_inherit.proofs.class_order.are_placed.Given as goal

abbrev pub invariant-loop-class : goal.invariant-loop-class
invariant-loop-class l = list_all (is_placed l.placed) (drop l.class-index l.classes) ≡ list_all (is_placed l.placed) l.classes
