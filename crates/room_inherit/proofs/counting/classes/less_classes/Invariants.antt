use Rattle.std.proofs.Common.{◌≡◌, ◌-◌, length, drop, map}
use Rattle.room_ast.specs.Tokens.{each, class_tokens}
use Rattle.room_ast.specs.Trees.{class_view}
use Rattle.room_inherit.proofs.counting.classes.less_classes.Given as goal

-- what is left once the rest is taken away
abbrev pub invariant-loop-class : goal.invariant-loop-class
invariant-loop-class l = l.left - length (each class_tokens (map class_view (drop l.class-index l.classes))) ≡ l.fn.left - length (each class_tokens (map class_view l.classes))
