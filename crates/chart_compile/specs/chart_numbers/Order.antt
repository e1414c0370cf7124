-- The numbers of a chart's nodes: each leads to nodes with lower numbers.
use Rattle.std.specs.Prelude.{◌≡◌, ◌<◌, ◌++◌, ℕ, Bool, true, false, not, if◌then◌else◌, nat_eq, List, [], ◌∷◌, Option, Some, None, fold, length, map, position, slice_get}
use Rattle.std.specs.List.{Contains}
use Rattle.std.specs.Option.{option_map_or}
use Rattle.name_tables.specs.name_numbers.Names.{same, is_among, AreDistinct}
use Rattle.chart_reader.specs.chart_nodes.Steps.{StepTree}
use Rattle.chart_reader.specs.chart_nodes.Circles.{number_of, targets_of}
use Rattle.chart_compile.specs.chart_places.Groups.{picked}

-- nodes in the order of their numbers: their keys, and the numbers of the first steps that lead to them
pub record Numbering : Type 0 where
  pub node_keys : List (List ℕ)
  pub node_steps : List ℕ

abbrev pub numbering : List (List ℕ) → List ℕ → Numbering
numbering keys targets = record { node_keys = keys; node_steps = targets }

-- whether a number is this one
abbrev pub is_number : Option ℕ → ℕ → Bool
is_number (Some n) i = nat_eq n i
is_number None i = false

-- one more node, if it is a new one
unfoldable pub with_node : Bool → ℕ → List ℕ → Numbering → Numbering
with_node true i key n = record { node_keys = n.node_keys ++ key ∷ []; node_steps = n.node_steps ++ i ∷ [] }
with_node false i key n = n

-- the node of a step, if the step is the first that leads there
abbrev pub with_first : List StepTree → ℕ → Numbering → StepTree → Numbering
with_first steps i n s = if is_number (number_of (targets_of steps) s.target) i then with_node (not (is_among n.node_keys s.target)) i s.target n else n

-- one more step, by its number
unfoldable pub with_step : List StepTree → Numbering → ℕ → Numbering
with_step steps n i = option_map_or (with_first steps i n) (slice_get steps i) n

-- the nodes of steps that are gone through in an order
abbrev pub numbered : List StepTree → List ℕ → Numbering
numbered steps order = fold (with_step steps) (numbering [] []) order

-- a step that begins at the node with a number leads to the node with a lower number
abbrev pub LeadLower : List StepTree → List (List ℕ) → Type 0
LeadLower steps keys = (p : ℕ) (key : List ℕ) (s : StepTree) → slice_get keys p ≡ Some key → Contains steps s → same s.origin key ≡ true → (q : ℕ) × (position (same s.target) keys ≡ Some q) × (q < p)

-- The node of each step is among those with these keys.
abbrev pub AllNumbered : List StepTree → List (List ℕ) → Type 0
AllNumbered steps keys = (i : ℕ) (s : StepTree) → slice_get steps i ≡ Some s → is_among keys s.target ≡ true

-- The nodes with these keys are those that the steps with these numbers lead to, one by one; no two are the same, and each leads to lower ones.
pub record AreNumbered (steps : List StepTree) (keys : List (List ℕ)) (targets : List ℕ) : Type 0 where
  pub named : keys ≡ map (λ (s : StepTree). s.target) (picked steps targets)
  pub as_many : length keys ≡ length targets
  pub distinct : AreDistinct keys
  pub lower : LeadLower steps keys
