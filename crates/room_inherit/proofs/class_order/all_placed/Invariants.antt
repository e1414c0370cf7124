use Rattle.std.proofs.Common.{◌≡◌, drop}
use Rattle.std.specs.List.{list_all}
use Rattle.room_inherit.proofs.class_order.all_placed.Given as goal

abbrev pub invariant-loop-one : goal.invariant-loop-one
invariant-loop-one l = list_all (λ b. b) (drop l.one-index l.placed) ≡ list_all (λ b. b) l.placed
