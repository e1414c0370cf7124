use Rattle.std.proofs.Common.{◌≡◌, ◌+◌, drop}
use Rattle.room_ast.specs.Found.{found_signal}
use Rattle.room_ast.proofs.lookup.signal.Given as goal

-- what was passed isn't it
abbrev pub invariant-loop-signal : goal.invariant-loop-signal
invariant-loop-signal l =
    (found_signal l.number (drop l.signal-index l.signals) l.name ≡ found_signal l.first l.signals l.name)
    × (l.number ≡ l.first + l.signal-index)
