use Rattle.std.proofs.Common.{◌≡◌, [], length, drop, map}
use Rattle.std.specs.Prelude.{option_map}
use Rattle.room_ast.specs.Trees.{model_view}
use Rattle.room_ast.specs.model_parts.Classes.{actors}
use Rattle.chart_trees.specs.chart_graphs.Views.{chart_view}
use Rattle.chart_reader.specs.model_charts.Written.{written_from}
use Rattle.chart_reader.specs.model_charts.Making.{IsRead}
use Rattle.chart_reader.proofs.model_charts.charts.charts_of.Given as goal

abbrev pub invariant-loop-scope : goal.invariant-loop-scope
invariant-loop-scope l = record {
  read : IsRead (written_from [] l.checked.scopes.items (actors (model_view l.checked.model.now))) (written_from l.names (drop l.scope-index l.checked.scopes.items) (drop l.scope-index (actors (model_view l.checked.model.now)))) (map (option_map chart_view) l.charts.items);
  count : length l.charts.items ≡ l.scope-index;
}
