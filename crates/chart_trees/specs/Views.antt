-- What is read, without where it lies in memory.
use Rattle.std.specs.Prelude.{ℕ, List, map}
use Rattle.chart_trees.specs.chart_graphs.Views.{state_view, point_view, transition_view, graph_view}
use Rattle.chart_trees.specs.chart_codes.Progress.{progress}
use Rattle.chart_trees.specs.Around.{Around}
use Rattle.chart_trees.specs.Reading.{Piece}
use Rattle.chart_trees.specs.declared.around.Around.{Around as CodeAround}
use Rattle.chart_trees.specs.declared.piece.Piece.{Piece as CodePiece}

abbrev pub around_view : CodeAround → Around
around_view a = record { states = a.states; entries = a.entries; inner = a.inner.items }

-- where these are the service names
abbrev pub piece_view : CodePiece → List (List ℕ) → Piece
piece_view p names = record {
  states = map state_view p.states.items;
  points = map point_view p.points.items;
  choices = p.choices;
  transitions = map transition_view p.transitions.items;
  inner = map graph_view p.inner.items;
  come = progress p.marks names;
}
