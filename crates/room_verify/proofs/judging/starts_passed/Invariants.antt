use Rattle.std.proofs.Common.{◌≡◌, List, length, map, take}
use Rattle.journal.specs.declared.entry.Entry.{Entry}
use Rattle.room_verify.proofs.judging.starts_passed.Given as goal

abbrev pub invariant-loop-start : goal.invariant-loop-start
invariant-loop-start l = l.passed.items ≡ map (λ (es : List Entry). length es) (take l.start-index l.starts)
