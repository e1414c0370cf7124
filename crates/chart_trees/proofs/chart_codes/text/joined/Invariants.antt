use Rattle.std.proofs.Common.{◌≡◌, ◌++◌, take}
use Rattle.chart_trees.specs.chart_codes.Codes.{text_bytes}
use Rattle.chart_trees.proofs.chart_codes.Joined.{lines}
use Rattle.chart_trees.proofs.chart_codes.text.joined.Given as goal

abbrev pub invariant-loop-text : goal.invariant-loop-text
invariant-loop-text l = l.bytes.items ≡ l.initial.bytes.items ++ lines text_bytes (take l.text-index l.others)
