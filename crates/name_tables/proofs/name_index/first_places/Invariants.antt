use Rattle.std.proofs.Common.{take}
use Rattle.name_tables.specs.name_numbers.Names.{names_of}
use Rattle.name_tables.specs.name_index.Places.{FindsFirst}
use Rattle.name_tables.proofs.name_index.first_places.Given as goal

abbrev pub invariant-loop-place : goal.invariant-loop-place
invariant-loop-place l = FindsFirst l.first (names_of (take l.place l.names))
