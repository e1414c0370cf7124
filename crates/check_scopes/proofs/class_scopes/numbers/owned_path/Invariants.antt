use Rattle.std.proofs.Common.{◌≡◌, take}
use Rattle.name_tables.specs.name_numbers.Names.{names_of}
use Rattle.check_scopes.proofs.class_scopes.numbers.owned_path.Given as goal

abbrev pub invariant-loop-name : goal.invariant-loop-name
invariant-loop-name l = l.names.items ≡ names_of (take l.name-index l.path)
