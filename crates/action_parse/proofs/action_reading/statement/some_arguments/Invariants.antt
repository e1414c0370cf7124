use Rattle.std.proofs.Common.{◌≡◌, ℕ, ◌+◌, ◌≤◌, length, map}
use Rattle.room_lexer.specs.declared.token.Mark.TheVariants as marks
use Rattle.room_tokens.specs.Reader.{many}
use Rattle.room_tokens.proofs.Loop.{with_front}
use Rattle.room_tokens.specs.action_tokens.Single.{left, comes}
use Rattle.action_program.specs.Named.{expr_view}
use Rattle.action_parse.specs.action_reading.ExprReading.{expression}
use Rattle.action_parse.specs.action_reading.StmtReading.{argument_at, some_arguments_at}
use Rattle.action_parse.proofs.action_reading.statement.some_arguments.Given as goal

abbrev pub invariant-loop-alloc : goal.invariant-loop-alloc
invariant-loop-alloc l =
    (n : ℕ) × (length (left l.rest) ≤ n)
    × (with_front (map expr_view l.found.items) (many (comes marks.Comma) (argument_at (expression l.depth)) (n + 1) (left l.rest)) ≡ some_arguments_at (expression l.depth) (left l.fn.rest))

abbrev pub decreases-loop-alloc : goal.decreases-loop-alloc
decreases-loop-alloc l = length (left l.rest)
