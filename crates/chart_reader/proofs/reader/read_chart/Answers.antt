use Rattle.chart_trees.specs.chart_graphs.Views.{chart_view}
use Rattle.chart_reader.proofs.Lowest.{valid_when}
use Rattle.chart_reader.proofs.reader.read_chart.Goals as goal

pub returns-in-None-clause-valid : goal.returns-in-None-clause-valid
returns-in-None-clause-valid c =
    valid_when (chart_view c.in_ok-written.written.chart) c.in_ok-written.written.marks.events_fit c.in_ok-written.written.marks.codes_fit c.in_ok-fault.field-0 c.in-None.is c.in_ok-fault.ensures
