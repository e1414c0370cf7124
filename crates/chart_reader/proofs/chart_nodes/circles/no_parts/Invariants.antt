use Rattle.std.proofs.Common.{◌≡◌, ℕ, List, [], replicate}
use Rattle.chart_reader.proofs.chart_nodes.circles.no_parts.Given as goal

abbrev pub invariant-loop-i : goal.invariant-loop-i
invariant-loop-i l = l.parts.items ≡ replicate l._i (let none : List ℕ = [] in none)
