use Rattle.std.proofs.Common.{◌≡◌, ◌-◌, length, drop}
use Rattle.room_ast.specs.Tokens.{each, or_trigger}
use Rattle.room_inherit.proofs.counting.codes.less_other_triggers.Given as goal

-- what is left once the rest is taken away
abbrev pub invariant-loop-trigger : goal.invariant-loop-trigger
invariant-loop-trigger l = l.left - length (each or_trigger (drop l.trigger-index l.others)) ≡ l.fn.left - length (each or_trigger l.others)
