use Rattle.room_inherit.specs.Ordering.{IsMarked}
use Rattle.room_inherit.proofs.class_order.is_order.Given as goal

abbrev pub invariant-loop-class : goal.invariant-loop-class
invariant-loop-class l = IsMarked l.bases l.order l.class-index l.placed.items
