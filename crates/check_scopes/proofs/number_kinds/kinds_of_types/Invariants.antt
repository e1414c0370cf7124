use Rattle.std.proofs.Common.{◌≡◌, take}
use Rattle.std.specs.List.{flat_map}
use Rattle.check_scopes.specs.number_kinds.Kinds.{kinds_by}
use Rattle.check_scopes.proofs.number_kinds.kinds_of_types.Given as goal

abbrev pub invariant-loop-entry : goal.invariant-loop-entry
invariant-loop-entry l = l.kinds.items ≡ flat_map (kinds_by l.table) (take l.entry-index l.types)
