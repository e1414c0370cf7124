use Rattle.std.proofs.Common.{◌≡◌, ◌-◌, length, drop}
use Rattle.room_ast.specs.Tokens.{each, message}
use Rattle.room_inherit.proofs.counting.systems.less_messages.Given as goal

-- what is left once the rest is taken away
abbrev pub invariant-loop-m : goal.invariant-loop-m
invariant-loop-m l = l.left - length (each message (drop l.m-index l.messages)) ≡ l.fn.left - length (each message l.messages)
