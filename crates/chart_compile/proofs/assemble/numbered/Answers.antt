use Rattle.std.proofs.Common.{map}
use Rattle.chart_reader.specs.chart_nodes.Steps.{step_view}
use Rattle.chart_compile.proofs.chart_numbers.Reaching.{lead_to}
use Rattle.chart_compile.proofs.assemble.numbered.Goals as goal

pub returns-clause-lead : goal.returns-clause-lead
returns-clause-lead c =
    lead_to (map step_view c.args.steps.now) c.in_ok-nodes.nodes.keys c.in_ok-nodes.ensures.all c.requires.keyed
