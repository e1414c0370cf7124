use Rattle.std.proofs.Common.{◌∙◌, ap}
use Rattle.chart_reader.specs.chart_nodes.Steps.{steps_of}
use Rattle.chart_reader.specs.chart_rules.Index.{beginning_plainly}
use Rattle.chart_reader.specs.chart_rules.IndexView.{index_view}
use Rattle.chart_reader.proofs.chart_rules.Begin.{defaults_counted}
use Rattle.chart_reader.proofs.chart_rules.index.ChartIndex.defaults_at.Goals as goal

pub returns : goal.returns
returns c = c.beginning_plainly.ensures ∙ ap (beginning_plainly (steps_of (index_view c.args.self.now))) (c.as_slice.ensures.value ∙ c.in_ok-key.ensures) ∙ defaults_counted (index_view c.args.self.now) c.args.owner.now c.args.choice.now
