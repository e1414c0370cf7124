use Rattle.std.proofs.Common.{◌≡◌, ℕ, List, take}
use Rattle.std.specs.List.{count_by}
use Rattle.name_tables.specs.name_numbers.Names.{same}
use Rattle.chart_reader.specs.chart_nodes.Steps.{step_view}
use Rattle.chart_reader.specs.chart_rules.Index.{count_in}
use Rattle.chart_reader.proofs.chart_rules.counts.count_origins.Given as goal

abbrev pub invariant-loop-step : goal.invariant-loop-step
invariant-loop-step l = (key : List ℕ) → count_in l.counts key ≡ count_by (λ s. same (step_view s).origin key) (take l.step-index l.steps)
