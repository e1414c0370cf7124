use Rattle.std.proofs.Common.{◌∷◌, ◌∙◌, ap}
use Rattle.chart_reader.specs.chart_nodes.Steps.{steps_of}
use Rattle.chart_reader.specs.chart_rules.Index.{beginning}
use Rattle.chart_reader.specs.chart_rules.IndexView.{index_view}
use Rattle.chart_reader.proofs.chart_rules.Begin.{initials_counted}
use Rattle.chart_reader.proofs.chart_rules.index.ChartIndex.initials_of.Goals as goal

pub returns : goal.returns
returns c = c.beginning.ensures ∙ ap (beginning (steps_of (index_view c.args.self.now))) (c.as_slice.ensures.value ∙ c.in_ok-key.ensures) ∙ initials_counted (index_view c.args.self.now) (c.args.state.now ∷ c.args.owner.now)
