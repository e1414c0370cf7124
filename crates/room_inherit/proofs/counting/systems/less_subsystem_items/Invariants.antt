use Rattle.std.proofs.Common.{◌≡◌, ◌-◌, length, drop, map}
use Rattle.room_ast.specs.Tokens.{each, subsystem_item}
use Rattle.room_ast.specs.Trees.{subsystem_item_view}
use Rattle.room_inherit.proofs.counting.systems.less_subsystem_items.Given as goal

-- what is left once the rest is taken away
abbrev pub invariant-loop-item : goal.invariant-loop-item
invariant-loop-item l = l.left - length (each subsystem_item (map subsystem_item_view (drop l.item-index l.items))) ≡ l.fn.left - length (each subsystem_item (map subsystem_item_view l.items))
