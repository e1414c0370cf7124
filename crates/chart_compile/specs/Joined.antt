-- What joins the parts of a chart's tables.
use Rattle.std.specs.Prelude.{◌≡◌, ◌++◌, ℕ, true, List, [], Some, length, map, slice_get}
use Rattle.std.specs.List.{cons_option}
use Rattle.chart_model.specs.chart_plan.Same.{Each}
use Rattle.chart_run.specs.declared.chart_tables.tables.Node.{Node as CodeNode}
use Rattle.chart_run.specs.declared.chart_tables.tables.Tables.{Tables}
use Rattle.chart_reader.specs.chart_nodes.Steps.{StepTree}
use Rattle.chart_compile.specs.chart_places.Groups.{picked}
use Rattle.chart_compile.specs.chart_places.Places.{PlaceTree}
use Rattle.chart_compile.specs.chart_parts.Parts.{from_key, target_of}
use Rattle.chart_compile.specs.chart_parts.Nodes.{GoesOn, IsNode, leads_lower, node_after}
use Rattle.chart_compile.specs.chart_parts.Compiled.{IsAssembled, node_kind}

-- each step has the key of the node that it leads to
abbrev pub AreKeyed : List StepTree → Type 0
AreKeyed steps = (i : ℕ) (s : StepTree) → slice_get steps i ≡ Some s → s.target ≡ target_of s

-- a chain goes on from the node of each step
abbrev pub AllGoOn : List (List ℕ) → List StepTree → Type 0
AllGoOn states steps = (i : ℕ) (s : StepTree) → slice_get steps i ≡ Some s → GoesOn states (node_after s) (from_key (target_of s) steps)

-- each number has the same node
abbrev pub SameNodes : List CodeNode → List CodeNode → Type 0
SameNodes old new = (n : ℕ) → node_kind new n ≡ node_kind old n

-- the node of the step with a number, if there is such a step, stands behind those of other steps
abbrev pub AddsNode : (states keys : List (List ℕ)) (steps : List StepTree) (number : ℕ) (old new : List CodeNode) → Type 0
AddsNode states keys steps number old new = (ss : List StepTree) → Each (IsNode states keys steps) old ss → Each (IsNode states keys steps) new (ss ++ cons_option (slice_get steps number) [])

-- so many nodes, the first of which are those that the steps with these numbers lead to; each leads to lower ones
pub record AreMade (states keys : List (List ℕ)) (steps : List StepTree) (targets : List ℕ) (count : ℕ) (nodes : List CodeNode) : Type 0 where
  pub made : List CodeNode
  pub nodes_are : Each (IsNode states keys steps) made (picked steps targets)
  pub same : SameNodes made nodes
  pub lower : (n : ℕ) → leads_lower n (node_kind nodes n) ≡ true
  pub size : length nodes ≡ count

-- tables are put together from the steps and the places of a chart, with nodes in some order
abbrev pub AreOf : (states graphs : List (List ℕ)) (steps : List StepTree) (places : List PlaceTree) (count : ℕ) (v : Tables) → Type 0
AreOf states graphs steps places count v = (targets : List StepTree) × IsAssembled states graphs (map target_of targets) steps places targets count v
