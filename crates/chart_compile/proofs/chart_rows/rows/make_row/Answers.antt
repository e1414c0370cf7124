use Rattle.std.proofs.Common.{map}
use Rattle.chart_reader.specs.chart_nodes.Steps.{step_view}
use Rattle.chart_compile.proofs.chart_rows.rows.make_row.Goals as goal

pub steps_at-group-requires-clause-grouped : goal.steps_at-group-requires-clause-grouped
steps_at-group-requires-clause-grouped c = (map step_view c.args.steps.now, c.requires.grouped)
