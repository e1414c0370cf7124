use Rattle.std.proofs.Common.{List, ℕ, ◌≡◌, ◌≤◌, length, map, subst, sum, sym}
use Rattle.chart_model.specs.chart_plan.Same.{Each}
use Rattle.chart_model.specs.Named.{nodes_in}
use Rattle.chart_trees.specs.chart_graphs.Views.{graph_view}
use Rattle.chart_trees.specs.declared.chart_graphs.Graph.{Graph as CodeGraph}
use Rattle.chart_reader.specs.chart_nodes.Steps.{step_view}
use Rattle.chart_compile.specs.chart_places.Places.{place_view}
use Rattle.chart_compile.specs.chart_parts.Parts.{IsShared}
use Rattle.chart_compile.specs.chart_numbers.Order.{AreNumbered}
use Rattle.chart_compile.specs.Joined.{AreMade}
use Rattle.chart_compile.proofs.Making.{assembled}
use Rattle.chart_compile.proofs.assemble.assemble.Goals as goal

pub node_rows-requires-clause-enough : goal.node_rows-requires-clause-enough
node_rows-requires-clause-enough c =
    subst (λ (gs : List CodeGraph). length c.in_ok-nodes.nodes.keys ≤ sum (map nodes_in (map graph_view gs))) (sym c.deref.ensures.value)
    (c.requires.enough c.in_ok-nodes.nodes.keys c.in_ok-nodes.nodes.targets.items c.in_ok-nodes.ensures.numbered)

pub returns-clause-tables : goal.returns-clause-tables
returns-clause-tables c =
    let keys = c.in_ok-nodes.nodes.keys in
    let steps = map step_view c.args.steps.now in
    let numbers = c.as_slice-targets.result.now in
    assembled c.args.states.now c.args.graphs.now keys steps (map place_view c.args.places.now) numbers (sum (map nodes_in (map graph_view c.args.chart.now.graphs.items)))
    (record { states = c.in_ok-rows.rows; graphs = c.in_ok-shared.shared; nodes = c.in_ok-made.made; initial = c.in_ok-initial.initial; values = c.in_ok-copies.copies }) (subst (λ (t : List ℕ). AreNumbered steps keys t) (sym c.as_slice-targets.ensures.value) c.in_ok-nodes.ensures.numbered) c.requires.keyed c.in_ok-rows.ensures
    (subst (λ (l : List (List ℕ)). Each (IsShared keys steps) c.in_ok-shared.shared.items l) (sym c.requires.graphs_are) c.in_ok-shared.ensures)
    (subst (λ (gs : List CodeGraph). AreMade c.args.states.now keys steps numbers (sum (map nodes_in (map graph_view gs))) c.in_ok-made.made.items) c.deref.ensures.value c.in_ok-made.ensures) c.in_ok-initial.ensures
