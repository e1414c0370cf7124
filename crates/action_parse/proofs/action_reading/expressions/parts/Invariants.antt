use Rattle.std.proofs.Common.{◌≡◌, ℕ, ◌+◌, ◌≤◌, length}
use Rattle.room_lexer.specs.declared.token.Mark.TheVariants as marks
use Rattle.room_tokens.specs.Reader.{many}
use Rattle.room_tokens.proofs.Loop.{with_front}
use Rattle.room_tokens.specs.action_tokens.Single.{left, comes}
use Rattle.action_parse.specs.action_reading.ExprReading.{part_at, path_from}
use Rattle.action_parse.proofs.action_reading.expressions.parts.Given as goal

abbrev pub invariant-loop-alloc : goal.invariant-loop-alloc
invariant-loop-alloc l = (n : ℕ) × (length (left l.rest) ≤ n) × (with_front l.path.items (many (comes marks.Dot) part_at (n + 1) (left l.rest)) ≡ path_from l.fn.first (left l.fn.rest))

abbrev pub decreases-loop-alloc : goal.decreases-loop-alloc
decreases-loop-alloc l = length (left l.rest)
