use Rattle.std.proofs.Common.{◌∙◌}
use Rattle.chart_compile.proofs.chart_kinds.Lines.{all_views}
use Rattle.chart_compile.proofs.chart_kinds.all_lower.Goals as goal

pub returns : goal.returns
returns c = c.all_below.ensures ∙ all_views c.args.n c.args.arrows.now
