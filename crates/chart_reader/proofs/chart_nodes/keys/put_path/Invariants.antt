use Rattle.std.proofs.Common.{◌≡◌, ◌++◌, drop}
use Rattle.chart_reader.specs.chart_nodes.Keys.{codes}
use Rattle.chart_reader.proofs.chart_nodes.keys.put_path.Given as goal

abbrev pub invariant-loop-name : goal.invariant-loop-name
invariant-loop-name l = l.key.items ++ codes (drop l.name-index l.path) ≡ l.initial.key.items ++ codes l.path
