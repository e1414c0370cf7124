use Rattle.std.proofs.Common.{◌≡◌, take}
use Rattle.name_tables.specs.name_numbers.Names.{AreDistinct, names_of}
use Rattle.name_tables.proofs.name_numbers.numbered.Given as goal

abbrev pub invariant-loop-name : goal.invariant-loop-name
invariant-loop-name l = (l.numbers ≡ names_of (take l.name-index l.names)) × AreDistinct l.numbers
