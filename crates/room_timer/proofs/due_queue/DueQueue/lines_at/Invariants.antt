use Rattle.std.proofs.Common.{◌≡◌, ◌++◌, map}
use Rattle.std.specs.Map.{keys_of}
use Rattle.std.specs.List.Sorted.{IsStrictlySortedBy}
use Rattle.room_timer.specs.Timers.{timeout_line}
use Rattle.room_timer.specs.Turns.{run_at, due_run, due_cmp}
use Rattle.room_timer.proofs.due_queue.DueQueue.lines_at.Given as goal

abbrev pub invariant-loop-key : goal.invariant-loop-key
invariant-loop-key l =
    (l.lines.items ++ map (λ p. timeout_line l.number (record { at = p.1; due = l.time })) (run_at l.time l.key-iterator) ≡ map (λ p. timeout_line l.number (record { at = p.1; due = l.time })) (due_run l.time l.self))
    × IsStrictlySortedBy due_cmp (keys_of l.key-iterator)
