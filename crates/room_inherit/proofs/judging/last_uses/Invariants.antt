use Rattle.std.proofs.Common.{map}
use Rattle.room_ast.specs.Trees.{class_view}
use Rattle.room_inherit.specs.Judging.{HasLastUses}
use Rattle.room_inherit.proofs.judging.last_uses.Given as goal

abbrev pub invariant-loop-place : goal.invariant-loop-place
invariant-loop-place l = HasLastUses l.names (map class_view l.classes) l.order l.place l.last.items
