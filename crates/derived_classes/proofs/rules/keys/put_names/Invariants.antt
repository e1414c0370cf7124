use Rattle.std.proofs.Common.{◌≡◌, ◌++◌, drop}
use Rattle.derived_classes.specs.Keys.{codes}
use Rattle.derived_classes.proofs.rules.keys.put_names.Given as goal

abbrev pub invariant-loop-name : goal.invariant-loop-name
invariant-loop-name l = l.key.items ++ codes (drop l.name-index l.names) ≡ l.initial.key.items ++ codes l.names
