-- The chart that an index stands for.
use Rattle.chart_model.specs.Chart.{Chart}
use Rattle.chart_reader.specs.chart_rules.Views.{chart_of}
use Rattle.chart_reader.specs.declared.chart_rules.index.ChartIndex.{ChartIndex}

abbrev pub index_view : ChartIndex → Chart
index_view c = chart_of c.graphs.items c.values.now
