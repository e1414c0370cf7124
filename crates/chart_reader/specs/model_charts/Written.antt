-- What the texts of the charts of actor classes write, class by class in order of declaration.
use Rattle.std.specs.Prelude.{◌≡◌, Bool, List, [], ◌∷◌, map, Option, Some, None, option_map, unwrap_or, is_some}
use Rattle.room_ast.specs.declared.scope.Scope.{Scope}
use Rattle.room_ast.specs.ChartTree.{GraphItems}
use Rattle.room_ast.specs.Trees.{ModelTree, ActorTree}
use Rattle.room_ast.specs.model_parts.Charts.{chart_of as machine_of}
use Rattle.room_ast.specs.model_parts.Classes.{actors}
use Rattle.check_scopes.specs.class_scopes.Scopes.{scope_of}
use Rattle.check_scopes.specs.class_scopes.Views.{scope_view}
use Rattle.chart_model.specs.Chart.{Name, Chart}
use Rattle.chart_trees.specs.Reading.{chart_of, reading}

-- What a text writes: the chart, and whether each event and each code in it is the class's.
pub record Written : Type 0 where
  pub chart : Chart
  pub events_fit : Bool
  pub codes_fit : Bool

-- What a text writes in a class that can name this, where these service names came before it.
abbrev pub written : Scope → List Name → GraphItems → Written
written scope names is = record { chart = chart_of scope names is; events_fit = (reading scope names is).events_fit; codes_fit = is_some (reading scope names is).names }

-- The service names after a class with such a chart, where these came before it. Where a code isn't the class's none is added: the class has a fault, and the classes behind it don't count.
abbrev pub names_after : Scope → List Name → Option GraphItems → List Name
names_after scope names None = names
names_after scope names (Some is) = unwrap_or (reading scope names is).names names

-- What the texts of classes write that can name this, where these service names came before them; None for a class without a state machine.
abbrev pub written_from : List Name → List Scope → List ActorTree → List (Option Written)
written_from names [] ks = []
written_from names (s ∷ ss) [] = []
written_from names (s ∷ ss) (a ∷ ks) = option_map (written s names) (machine_of a) ∷ written_from (names_after s names (machine_of a)) ss ks

-- This is what the texts of a model's actor classes write, by number: each in a scope that is seen as its class, and service names numbered through all of them.
pub record AreWritten (m : ModelTree) (all : List (Option Written)) : Type 0 where
  pub scopes : List Scope
  pub seen : map scope_view scopes ≡ map (scope_of m) (actors m)
  pub written : all ≡ written_from [] scopes (actors m)
