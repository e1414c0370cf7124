use Rattle.std.proofs.Common.{◌≡◌, ◌++◌, drop}
use Rattle.chart_reader.specs.chart_nodes.Keys.{code}
use Rattle.chart_reader.proofs.chart_nodes.keys.put_name.Given as goal

abbrev pub invariant-loop-byte : goal.invariant-loop-byte
invariant-loop-byte l = l.key.items ++ code (drop l.byte-index l.name) ≡ l.initial.key.items ++ code l.name
