use Rattle.std.proofs.Common.{◌≡◌, ℕ, ◌+◌, ◌*◌, ◌≤◌, length, map}
use Rattle.room_tokens.specs.Reader.{many, all_while}
use Rattle.room_tokens.proofs.Loop.{with_front}
use Rattle.room_tokens.specs.action_tokens.Single.{left}
use Rattle.action_program.specs.Named.{stmt_view, branch_view}
use Rattle.action_parse.specs.action_reading.ExprReading.{expression}
use Rattle.action_parse.specs.action_reading.StmtReading.{else_if_comes, else_if_at, branches_at, goes_on, statement, block_below}
use Rattle.action_parse.proofs.action_reading.statement.+statement.Given as goal

abbrev pub decreases-block : goal.decreases-block
decreases-block l = 16 * l.depth

abbrev pub decreases-otherwise : goal.decreases-otherwise
decreases-otherwise l = 16 * l.depth + 1

abbrev pub decreases-repeat : goal.decreases-repeat
decreases-repeat l = 16 * l.depth + 1

abbrev pub decreases-branch : goal.decreases-branch
decreases-branch l = 16 * l.depth + 1

abbrev pub decreases-else_if : goal.decreases-else_if
decreases-else_if l = 16 * l.depth + 2

abbrev pub decreases-branches : goal.decreases-branches
decreases-branches l = 16 * l.depth + 3

abbrev pub decreases-choose : goal.decreases-choose
decreases-choose l = 16 * l.depth + 4

abbrev pub decreases-statement : goal.decreases-statement
decreases-statement l = 16 * l.depth + 5

abbrev pub decreases-statements : goal.decreases-statements
decreases-statements l = 16 * l.depth + 6

abbrev pub decreases-braces : goal.decreases-braces
decreases-braces l = 16 * l.depth + 7

abbrev pub invariant-branches-loop-alloc : goal.invariant-branches-loop-alloc
invariant-branches-loop-alloc l =
    (n : ℕ) × (length (left l.rest) ≤ n)
    × (with_front (map branch_view l.found.items) (many else_if_comes (else_if_at (expression l.depth) (block_below l.depth)) (n + 1) (left l.rest)) ≡ branches_at (expression l.depth) (block_below l.depth) (left l.fn.rest))

abbrev pub decreases-branches-loop-alloc : goal.decreases-branches-loop-alloc
decreases-branches-loop-alloc l = length (left l.rest)

abbrev pub invariant-statements-loop-alloc : goal.invariant-statements-loop-alloc
invariant-statements-loop-alloc l =
    (n : ℕ) × (length (left l.rest) ≤ n)
    × (with_front (map stmt_view l.found.items) (many goes_on (statement l.depth) (n + 1) (left l.rest)) ≡ all_while goes_on (statement l.depth) (left l.initial.rest))

abbrev pub decreases-statements-loop-alloc : goal.decreases-statements-loop-alloc
decreases-statements-loop-alloc l = length (left l.rest)
