use Rattle.std.proofs.Common.{◌≡◌, ℕ, List, [], replicate}
use Rattle.chart_compile.proofs.chart_places.groups.no_groups.Given as goal

abbrev pub invariant-loop-i : goal.invariant-loop-i
invariant-loop-i l = l.groups.items ≡ replicate l._i (let none : List ℕ = [] in none)
