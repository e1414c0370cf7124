use Rattle.std.proofs.Common.{◌≡◌, ℕ, ◌++◌, ◌<◌, ◌^◌, drop}
use Rattle.wiring_places.specs.place_rules.Parts.{children_from}
use Rattle.wiring_places.specs.slot_children.Table.{children_in}
use Rattle.wiring_places.proofs.slot_children.children_table.Given as goal

abbrev pub invariant-loop-i : goal.invariant-loop-i
invariant-loop-i l = (c r : ℕ) → r < 2 ^ 16 → children_in l.table c r ++ children_from l.i (drop l.i l.slots) c r ≡ children_from 0 l.slots c r
