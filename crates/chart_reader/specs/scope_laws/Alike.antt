-- Scopes that are seen alike.
use Rattle.std.specs.Prelude.{◌≡◌, ℕ, List}
use Rattle.room_ast.specs.declared.scope.Scope.{Scope}
use Rattle.room_ast.specs.ChartTree.{GraphItems}
use Rattle.check_scopes.specs.class_scopes.Views.{scope_view}
use Rattle.chart_trees.specs.Reading.{chart_of, reading}

-- In two scopes that are seen as one a text writes the same chart, and its programs are the class's in both or in neither.
abbrev pub WriteTheSame : Scope → Scope → List (List ℕ) → GraphItems → Type 0
WriteTheSame s t names is = scope_view s ≡ scope_view t → (chart_of s names is ≡ chart_of t names is) × (reading s names is ≡ reading t names is)
