-- Counting messages: how many of a list pass a test.
-- `times` is how often a message stands in a list. A message is named by its sender and its stamp.
use Rattle.std.specs.Prelude.{ℕ, ◌+◌, ◌==◌, ◌&&◌, Bool, List, [], ◌∷◌, if◌then◌else◌}
use Rattle.room_kinds.specs.declared.message.Msg.{Msg}

-- how many messages pass a test
abbrev pub count : (Msg → Bool) → List Msg → ℕ
count which [] = 0
count which (m ∷ ms) = (if which m then 1 else 0) + count which ms

-- whether a message has this priority and passes a test
abbrev pub of_priority : ℕ → (Msg → Bool) → Msg → Bool
of_priority p which m = (m.prio.0 == p) && which m

-- whether a message has the name of this one; a message is named by its sender and its stamp
abbrev pub same_name : Msg → Msg → Bool
same_name m x = (x.from.0 == m.from.0) && (x.stamp.0 == m.stamp.0)

-- how often a message of this name stands in a list
abbrev pub times : Msg → List Msg → ℕ
times m ms = count (same_name m) ms
