-- Nodes by number, and circles of them.
use Rattle.std.specs.Prelude.{ℕ, Bool, true, false, List, [], ◌∷◌, ◌++◌, Option, Some, None, fold, length, map, position, replicate, slice_set, slice_index_or}
use Rattle.name_tables.specs.name_numbers.Names.{same}
use Rattle.chart_model.specs.Chart.{Chart}
use Rattle.chart_model.specs.Named.{Node}
use Rattle.chart_model.specs.Valid.{LeadsTo}
use Rattle.chart_reader.specs.chart_nodes.Steps.{StepTree}

-- whether some node leads to itself
abbrev pub HasCircle : Chart → Bool → Type 0
HasCircle chart true = (n : Node) × LeadsTo chart n n
HasCircle chart false = (n : Node) → LeadsTo chart n n → ⊥

-- the keys of the nodes that steps lead to; a node has the number of the first step that leads to it
abbrev pub targets_of : List StepTree → List (List ℕ)
targets_of steps = map (λ (s : StepTree). s.target) steps

-- the number of the node with a key
abbrev pub number_of : List (List ℕ) → List ℕ → Option ℕ
number_of nodes key = position (same key) nodes

-- one node leads to another, both by number, if they have numbers
unfoldable pub linked : Option ℕ → Option ℕ → List (List ℕ) → List (List ℕ)
linked (Some n) (Some next) parts = slice_set parts n (slice_index_or parts n [] ++ next ∷ [])
linked (Some n) None parts = parts
linked None next parts = parts

abbrev pub linked_by : List (List ℕ) → List (List ℕ) → StepTree → List (List ℕ)
linked_by nodes parts s = linked (number_of nodes s.origin) (number_of nodes s.target) parts

-- for each node the nodes that it leads to at once, both by number
abbrev pub parts_of : List StepTree → List (List ℕ)
parts_of steps = fold (linked_by (targets_of steps)) (replicate (length steps) []) steps
