use Rattle.std.proofs.Common.{◌≡◌, take}
use Rattle.name_tables.specs.name_numbers.Names.{names_of}
use Rattle.derived_classes.proofs.rules.once.key_names.Given as goal

abbrev pub invariant-loop-key : goal.invariant-loop-key
invariant-loop-key l = names_of l.names.items ≡ take l.key-index l.keys
