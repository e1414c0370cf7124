use Rattle.std.proofs.Common.{arith, map, sum}
use Rattle.chart_model.specs.Named.{nodes_in}
use Rattle.chart_trees.specs.chart_graphs.Views.{graph_view}
use Rattle.chart_reader.specs.chart_nodes.Steps.{step_view}
use Rattle.chart_compile.proofs.Making.{are_made, made_size}
use Rattle.chart_compile.proofs.assemble.node_rows.Goals as goal

pub nodes_of-requires-clause-numbered : goal.nodes_of-requires-clause-numbered
nodes_of-requires-clause-numbered c = c.requires.numbered.named

pub fill_up-requires : goal.fill_up-requires
fill_up-requires c = omega (arith, c.requires.enough, made_size c.args.states.now c.args.nodes.now (map step_view c.args.steps.now) c.args.targets.now c.in_ok-made.made.items c.requires.numbered c.in_ok-made.ensures)

pub returns : goal.returns
returns c =
    are_made c.args.states.now c.args.nodes.now (map step_view c.args.steps.now) c.args.targets.now (sum (map nodes_in (map graph_view c.args.all.now))) c.in_ok-made.made.items c.fill_up.new.nodes.items c.requires.numbered c.requires.keyed c.in_ok-made.ensures c.in_ok-fill_up.ensures.same c.in_ok-fill_up.ensures.size
