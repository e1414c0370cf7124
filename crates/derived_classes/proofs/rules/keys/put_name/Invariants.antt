use Rattle.std.proofs.Common.{◌≡◌, ◌++◌, drop}
use Rattle.derived_classes.specs.Keys.{code}
use Rattle.derived_classes.proofs.rules.keys.put_name.Given as goal

abbrev pub invariant-loop-byte : goal.invariant-loop-byte
invariant-loop-byte l = l.key.items ++ code (drop l.byte-index l.name) ≡ l.initial.key.items ++ code l.name
