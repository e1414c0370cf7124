use Rattle.std.proofs.Common.{◌≡◌}
use Rattle.room_ast.specs.MappingTree.{mapping_views}
use Rattle.room_tokens.specs.Single.{left}
use Rattle.structure_parser.specs.Mappings.{closed_in, closed_at, frames_view}
use Rattle.structure_parser.proofs.mapping.closed.Given as goal

abbrev pub invariant-loop-turns : goal.invariant-loop-turns
invariant-loop-turns l = closed_in l.turns (frames_view l.frames.items) (mapping_views l.found.items) (left l.rest) ≡ closed_at (left l.initial.rest)

abbrev pub decreases-loop-turns : goal.decreases-loop-turns
decreases-loop-turns l = l.turns
