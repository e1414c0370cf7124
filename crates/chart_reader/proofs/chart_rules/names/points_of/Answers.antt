use Rattle.chart_trees.specs.chart_graphs.Views.{kind_view, point_view}
use Rattle.chart_trees.proofs.Lists.{picked_next}
use Rattle.chart_reader.specs.chart_rules.Index.{name_of_kind}
use Rattle.chart_reader.proofs.chart_rules.names.points_of.Goals as goal

pub loop-point-preserved : goal.loop-point-preserved
loop-point-preserved c = picked_next (name_of_kind (kind_view c.args.kind)) point_view c.args.points.now c.loop-point.point-index c.point-item.result _ _ _ c.loop-point-test.true c.point-item.is c.name_of_kind.ensures c.loop-point.invariant c.in_ok-add_name.ensures
