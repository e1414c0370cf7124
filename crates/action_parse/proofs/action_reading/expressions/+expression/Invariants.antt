use Rattle.std.proofs.Common.{◌≡◌, ℕ, ◌+◌, ◌*◌, ◌≤◌, length, map}
use Rattle.room_tokens.specs.Reader.{many, all_while}
use Rattle.room_tokens.proofs.Loop.{with_front}
use Rattle.room_tokens.specs.action_tokens.Single.{left}
use Rattle.action_program.specs.Named.{step_view}
use Rattle.action_parse.specs.action_reading.ExprReading.{op_comes, step_at, level, operand}
use Rattle.action_parse.proofs.action_reading.expressions.+expression.Given as goal

abbrev pub decreases-inside : goal.decreases-inside
decreases-inside l = 32 * l.depth

abbrev pub decreases-nested : goal.decreases-nested
decreases-nested l = 32 * l.depth

abbrev pub decreases-paren : goal.decreases-paren
decreases-paren l = 32 * l.depth + 1

abbrev pub decreases-unary : goal.decreases-unary
decreases-unary l = 32 * l.depth + 1

abbrev pub decreases-operand : goal.decreases-operand
decreases-operand l = 32 * l.depth + 2

abbrev pub decreases-level : goal.decreases-level
decreases-level l = 32 * l.depth + (3 * l.k + 3)

abbrev pub decreases-step : goal.decreases-step
decreases-step l = 32 * l.depth + (3 * l.k + 4)

abbrev pub decreases-steps : goal.decreases-steps
decreases-steps l = 32 * l.depth + (3 * l.k + 5)

abbrev pub invariant-steps-loop-alloc : goal.invariant-steps-loop-alloc
invariant-steps-loop-alloc l =
    (n : ℕ) × (length (left l.rest) ≤ n)
    × (with_front (map step_view l.found.items) (many (op_comes l.k) (step_at l.k (level l.k (operand l.depth))) (n + 1) (left l.rest)) ≡ all_while (op_comes l.k) (step_at l.k (level l.k (operand l.depth))) (left l.initial.rest))

abbrev pub decreases-steps-loop-alloc : goal.decreases-steps-loop-alloc
decreases-steps-loop-alloc l = length (left l.rest)
