use Rattle.std.proofs.Common.{◌≡◌, ◌-◌, length, drop}
use Rattle.room_ast.specs.Tokens.{each, data_item}
use Rattle.room_inherit.proofs.counting.parts.less_data_items.Given as goal

-- what is left once the rest is taken away
abbrev pub invariant-loop-item : goal.invariant-loop-item
invariant-loop-item l = l.left - length (each data_item (drop l.item-index l.items)) ≡ l.fn.left - length (each data_item l.items)
