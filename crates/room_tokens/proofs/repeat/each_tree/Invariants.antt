use Rattle.std.proofs.Common.{◌≡◌, ◌+◌, map}
use Rattle.room_tokens.specs.Reader.{many, all_while}
use Rattle.room_tokens.specs.Single.{left}
use Rattle.room_tokens.proofs.Loop.{with_front}
use Rattle.room_tokens.proofs.repeat.each_tree.Given as goal

abbrev pub invariant-loop-alloc : goal.invariant-loop-alloc
invariant-loop-alloc g l = with_front (map g.P.TreePart.tree l.found.items) (many g.P.TreePart.goes_on g.P.TreePart.reads (l.turns + 1) (left l.rest)) ≡ all_while g.P.TreePart.goes_on g.P.TreePart.reads (left l.initial.rest)

abbrev pub decreases-loop-alloc : goal.decreases-loop-alloc
decreases-loop-alloc g l = l.turns
