use Rattle.std.proofs.Common.{◌≤◌}
use Rattle.std.specs.List.{position_or_len}
use Rattle.name_tables.specs.name_numbers.Names.{same}
use Rattle.room_wiring.specs.declared.slot.Slot.{Slot}
use Rattle.inject_reader.proofs.directory.first_with_path.Given as goal

abbrev pub invariant-loop-s : goal.invariant-loop-s
invariant-loop-s l = l.s ≤ position_or_len (λ (x : Slot). same x.path l.path) l.wiring.slots
