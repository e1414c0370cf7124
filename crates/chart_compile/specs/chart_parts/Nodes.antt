-- Nodes of tables, by the steps that begin at them.
use Rattle.std.specs.Prelude.{◌&&◌, ◌<◌, ℕ, Bool, true, not, List, [], ◌∷◌, ◌++◌, Option, Some, None, length, nat_lt}
use Rattle.std.specs.List.{cons_option, filter, list_all}
use Rattle.std.specs.Option.{is_some}
use Rattle.chart_model.specs.chart_plan.Plan.{Kind, Simple, Border, Choice, Entry, Exit}
use Rattle.chart_model.specs.chart_plan.Same.{Each, SameKind}
use Rattle.chart_model.specs.Chart.{Path}
use Rattle.chart_model.specs.Named.{Node, a_state, a_choice, an_entry, an_exit, node_of}
use Rattle.chart_run.specs.chart_tables.Tables.{ArrowTree, arrow_view, arrow_views, kind}
use Rattle.chart_run.specs.declared.chart_tables.tables.Arrow.{Arrow}
use Rattle.chart_run.specs.declared.chart_tables.tables.Node.{Node as CodeNode}
use Rattle.chart_reader.specs.chart_nodes.Steps.{StepTree}
use Rattle.chart_compile.specs.chart_places.Places.{state_key}
use Rattle.chart_compile.specs.chart_parts.Parts.{HasShortNumber, IsArrow, IsState, from_key, target_of}

-- the node that a step leads to
abbrev pub node_after : StepTree → Node
node_after s = node_of s.placed.graph s.placed.transition.target

abbrev pub has_condition : StepTree → Bool
has_condition s = is_some s.placed.transition.condition

abbrev pub has_none : StepTree → Bool
has_none s = not (has_condition s)

-- what the first of some steps makes of a place
abbrev pub by_first : Path → (StepTree → Kind Path StepTree) → List StepTree → Kind Path StepTree
by_first path kind [] = Simple path
by_first path kind (s ∷ ss) = kind s

-- what a node is, by the steps that begin at it
abbrev pub kind_by : Node → List StepTree → Kind Path StepTree
kind_by (a_state path) steps = by_first path (λ s. Border path s) steps
kind_by (a_choice graph c) steps = by_first graph (λ d. Choice (filter has_condition steps) d) (filter has_none steps)
kind_by (an_entry owner e) steps = by_first owner (λ s. Entry owner s) steps
kind_by (an_exit [] x) steps = Simple []
kind_by (an_exit (s ∷ owner) x) steps = by_first (s ∷ owner) (λ t. Exit (s ∷ owner) t) steps

-- a choice point has a branch without a condition among the steps that begin at it; the state that another node is
-- or is a point of has a number, so an exit point isn't one of the top graph
abbrev pub GoesOn : List (List ℕ) → Node → List StepTree → Type 0
GoesOn states (a_state path) steps = HasShortNumber states (state_key path)
GoesOn states (a_choice graph c) steps = 0 < length (filter has_none steps)
GoesOn states (an_entry owner e) steps = HasShortNumber states (state_key owner)
GoesOn states (an_exit owner x) steps = (0 < length owner) × HasShortNumber states (state_key owner)

-- the branch of a step with a condition, if there is one, stands behind other branches
abbrev pub AddsBranch : List (List ℕ) → Option StepTree → (old new : List Arrow) → Type 0
AddsBranch nodes step old new =
    (ss : List StepTree) → Each (IsArrow nodes) (arrow_views old) (filter has_condition ss)
    → Each (IsArrow nodes) (arrow_views new) (filter has_condition (ss ++ cons_option step []))

-- a node of tables is the one that a step leads to
abbrev pub IsNode : List (List ℕ) → List (List ℕ) → List StepTree → CodeNode → StepTree → Type 0
IsNode states nodes steps n s = SameKind (IsState states) (IsArrow nodes) (kind n) (kind_by (node_after s) (from_key (target_of s) steps))

-- an arrow is that of the first of some steps, if there is one
abbrev pub IsFirst : List (List ℕ) → Option Arrow → List StepTree → Type 0
IsFirst nodes None [] = Unit {0}
IsFirst nodes None (s ∷ ss) = ⊥
IsFirst nodes (Some a) [] = ⊥
IsFirst nodes (Some a) (s ∷ ss) = IsArrow nodes (arrow_view a) s

-- whether a node leads to nodes with numbers below n
abbrev pub is_lower : ℕ → ArrowTree → Bool
is_lower n a = nat_lt a.target n

abbrev pub leads_lower : ℕ → Kind ℕ ArrowTree → Bool
leads_lower n (Simple s) = true
leads_lower n (Border s a) = is_lower n a
leads_lower n (Choice branches d) = list_all (is_lower n) branches && is_lower n d
leads_lower n (Entry s a) = is_lower n a
leads_lower n (Exit s a) = is_lower n a
