use Rattle.std.proofs.Common.{◌∙◌}
use Rattle.chart_reader.proofs.chart_rules.index.ChartIndex.beginning_plainly.Goals as goal

pub returns : goal.returns
returns c = c.count_of.ensures ∙ c.args.self.now.plain_origins_are c.args.key.now
