use Rattle.std.proofs.Common.{◌≡◌, ◌-◌, length, drop}
use Rattle.room_ast.specs.Tokens.{each, usercode}
use Rattle.room_inherit.proofs.counting.systems.less_usercodes.Given as goal

-- what is left once the rest is taken away
abbrev pub invariant-loop-usercode : goal.invariant-loop-usercode
invariant-loop-usercode l = l.left - length (each usercode (drop l.usercode-index l.usercodes)) ≡ l.fn.left - length (each usercode l.usercodes)
