use Rattle.std.proofs.Common.{◌≡◌, ◌++◌, take}
use Rattle.action_parse.proofs.recogniser.put.Given as goal

abbrev pub invariant-loop-goal : goal.invariant-loop-goal
invariant-loop-goal l = l.stack.items ≡ l.fn.stack.items ++ take l.goal-index l.goals
