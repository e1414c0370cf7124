-- Rows of tables, by the keys of a chart's states, graphs and nodes.
use Rattle.std.specs.Prelude.{◌≡◌, ◌<◌, ◌^◌, ℕ, List, [], ◌∷◌, ◌++◌, Option, Some, position, slice_get}
use Rattle.std.specs.Global.{Vec}
use Rattle.std.specs.List.{cons_option, filter}
use Rattle.action_program.specs.Numbered.{program_view}
use Rattle.name_tables.specs.name_numbers.Names.{same}
use Rattle.chart_model.specs.chart_plan.Same.{Each}
use Rattle.chart_model.specs.Chart.{Path}
use Rattle.chart_model.specs.Named.{outward}
use Rattle.chart_run.specs.chart_tables.Tables.{ArrowTree, arrow_views}
use Rattle.chart_run.specs.declared.chart_tables.tables.Arrow.{Arrow}
use Rattle.chart_run.specs.declared.chart_tables.tables.Row.{Row}
use Rattle.chart_reader.specs.chart_nodes.Keys.{target_key}
use Rattle.chart_reader.specs.chart_nodes.Steps.{StepTree}
use Rattle.chart_compile.specs.chart_places.Places.{PlaceTree, shared_key, state_key}

-- the steps that begin at the place with a key
abbrev pub from_key : List ℕ → List StepTree → List StepTree
from_key key steps = filter (λ (s : StepTree). same s.origin key) steps

-- a key has a number among keys
abbrev pub IsNumber : List (List ℕ) → List ℕ → ℕ → Type 0
IsNumber keys key n = position (same key) keys ≡ Some n

-- a key has a number among keys
abbrev pub HasNumber : List (List ℕ) → List ℕ → Type 0
HasNumber keys key = (n : ℕ) × IsNumber keys key n

-- and one of 16 bits
abbrev pub HasShortNumber : List (List ℕ) → List ℕ → Type 0
HasShortNumber keys key = (n : ℕ) × IsNumber keys key n × (n < 2 ^ 16)

-- a number is that of the state at a path
abbrev pub IsState : List (List ℕ) → ℕ → Path → Type 0
IsState states n path = IsNumber states (state_key path) n

-- the key of the node that a step leads to
abbrev pub target_of : StepTree → List ℕ
target_of s = target_key s.placed.graph s.placed.transition.target

-- the node of each step has a number
abbrev pub LeadTo : List (List ℕ) → List StepTree → Type 0
LeadTo nodes steps = (i : ℕ) (s : StepTree) → slice_get steps i ≡ Some s → HasNumber nodes (target_of s)

-- the key of a state
abbrev pub key_of : PlaceTree → List ℕ
key_of p = state_key p.path

-- an arrow is that of a step, to the node with its number
pub record IsArrow (nodes : List (List ℕ)) (a : ArrowTree) (s : StepTree) : Type 0 where
  pub triggers : a.triggers ≡ s.placed.transition.triggers
  pub condition : a.condition ≡ s.placed.transition.condition
  pub action : a.action ≡ s.placed.transition.action
  pub target : IsNumber nodes (target_of s) a.target

-- the arrow of a step, if there is one, stands behind those of other steps
abbrev pub AddsArrow : List (List ℕ) → Option StepTree → (old new : List Arrow) → Type 0
AddsArrow nodes step old new = (ss : List StepTree) → Each (IsArrow nodes) (arrow_views old) ss → Each (IsArrow nodes) (arrow_views new) (ss ++ cons_option step [])

-- the path of the state that has the graph with a state
abbrev pub outer : Path → Path
outer [] = []
outer (s ∷ owner) = owner

-- the state at a path and those that have it have numbers of 16 bits
abbrev pub HaveShortNumbers : List (List ℕ) → Path → Type 0
HaveShortNumbers states [] = Unit {0}
HaveShortNumbers states (s ∷ owner) = HasShortNumber states (state_key (s ∷ owner)) × HaveShortNumbers states owner

-- a state and those that have it have numbers of 16 bits, and the graph in which it stands has one
pub record IsPlaced (states graphs : List (List ℕ)) (p : PlaceTree) : Type 0 where
  pub up : HaveShortNumbers states p.path
  pub graph : HasNumber graphs (shared_key (outer p.path))

abbrev pub ArePlaced : List (List ℕ) → List (List ℕ) → List PlaceTree → Type 0
ArePlaced states graphs places = (i : ℕ) (p : PlaceTree) → slice_get places i ≡ Some p → IsPlaced states graphs p

-- a row is that of a state
pub record IsRow (states graphs nodes : List (List ℕ)) (steps : List StepTree) (r : Row) (p : PlaceTree) : Type 0 where
  pub up : Each (IsState states) r.up.items (outward p.path)
  pub entry : program_view r.entry ≡ p.state.entry
  pub exit : program_view r.exit ≡ p.state.exit
  pub own : Each (IsArrow nodes) (arrow_views r.own.items) (from_key (state_key p.path) steps)
  pub graph : IsNumber graphs (shared_key (outer p.path)) r.graph

-- arrows are those from the transition points of the graph with a key
abbrev pub IsShared : List (List ℕ) → List StepTree → Vec Arrow → List ℕ → Type 0
IsShared nodes steps arrows key = Each (IsArrow nodes) (arrow_views arrows.items) (from_key key steps)
