use Rattle.std.proofs.Common.{ℕ, List, ◌∷◌, ◌++◌, length}
use Rattle.chart_model.specs.chart_plan.Same.{Each}
use Rattle.chart_model.specs.Named.{outward}
use Rattle.chart_compile.specs.chart_parts.Parts.{HaveShortNumbers, IsState}
use Rattle.chart_compile.proofs.chart_rows.rows.up_line.Given as goal

-- the rest have numbers, which complete the line
abbrev pub invariant-outward : goal.invariant-outward
invariant-outward l =
    HaveShortNumbers l.states l.rest
    × ((qs : List ℕ) → Each (IsState l.states) qs (outward l.rest) → Each (IsState l.states) (l.up.items ++ qs) (outward (l.name ∷ l.owner)))

abbrev pub decreases-outward : goal.decreases-outward
decreases-outward l = length l.rest
