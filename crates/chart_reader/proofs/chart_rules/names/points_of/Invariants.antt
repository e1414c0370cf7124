use Rattle.std.proofs.Common.{◌≡◌, map, take}
use Rattle.std.specs.List.{filter_map}
use Rattle.name_tables.specs.name_numbers.Names.{names_of}
use Rattle.chart_trees.specs.chart_graphs.Views.{kind_view, point_view}
use Rattle.chart_reader.specs.chart_rules.Index.{name_of_kind}
use Rattle.chart_reader.proofs.chart_rules.names.points_of.Given as goal

abbrev pub invariant-loop-point : goal.invariant-loop-point
invariant-loop-point l = names_of l.names.items ≡ filter_map (name_of_kind (kind_view l.kind)) (map point_view (take l.point-index l.points))
