use Rattle.std.proofs.Common.{◌≡◌, ◌∙◌, ℕ, ℤ, List, [], ap, map, sym, subst}
use Rattle.chart_model.specs.Chart.{Graph, Chart}
use Rattle.chart_trees.specs.chart_graphs.Views.{graph_view}
use Rattle.chart_reader.specs.chart_nodes.Steps.{StepTree, steps_behind}
use Rattle.chart_reader.specs.chart_rules.Index.{beginning, beginning_plainly, border_keys, count_in}
use Rattle.chart_reader.proofs.chart_rules.index.ChartIndex.of.Goals as goal

abbrev with_parts : List Graph → List ℤ → Chart
with_parts graphs values = record { graphs = graphs; values = values }

pub invariant_of-result : goal.invariant_of-result
invariant_of-result c =
    let steps = c.requires.stepped ∙ ap (λ (gs : List Graph). steps_behind [] gs) (sym c.in_ok-graphs.ensures) in
    record {
      keys_are = c.in_ok-keys.ensures ∙ c.requires.keyed ∙ ap border_keys (sym c.in_ok-graphs.ensures);
      origins_are = subst (λ (ss : List StepTree). (key : List ℕ) → count_in c.in_ok-origins.origins key ≡ beginning ss key) steps c.in_ok-origins.ensures;
      plain_origins_are = subst (λ (ss : List StepTree). (key : List ℕ) → count_in c.in_ok-plain_origins.plain_origins key ≡ beginning_plainly ss key) steps c.in_ok-plain_origins.ensures;
    }

pub returns : goal.returns
returns c =
    ap (λ (gs : List Graph). with_parts gs c.as_slice-values.result.now) c.in_ok-graphs.ensures ∙ ap (with_parts (map graph_view c.args.chart.now.graphs.items)) c.as_slice-values.ensures.value
