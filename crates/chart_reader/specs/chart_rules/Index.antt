-- What a chart has and where its transitions begin, in tables.
use Rattle.std.specs.Prelude.{◌≡◌, ◌+◌, ◌&&◌, ℕ, List, ◌∷◌, Option, Some, None, if◌then◌else◌, map}
use Rattle.std.specs.List.{count_by, filter_map}
use Rattle.std.specs.Borrow.{Bor}
use Rattle.std.specs.Option.{unwrap_or}
use Rattle.indexmap.specs.IndexMap.{IndexMap}
use Rattle.name_tables.specs.name_numbers.Names.{same}
use Rattle.name_tables.specs.name_index.Places.{place_in}
use Rattle.chart_model.specs.Chart.{Name, PointKind, State, Point, Graph}
use Rattle.chart_model.specs.Named.{has_none}
use Rattle.chart_model.specs.Valid.{is_kind}
use Rattle.chart_reader.specs.chart_nodes.Keys.{codes}
use Rattle.chart_reader.specs.chart_nodes.Steps.{StepTree}

-- ---- counts of keys

-- the count that a map has for a key
abbrev pub count_in : {S : Type 0} → IndexMap (Bor (List ℕ)) ℕ S → List ℕ → ℕ
count_in m key = unwrap_or (place_in m key) 0

-- a key is counted once more
abbrev pub CountsOneMore : (List ℕ → ℕ) → (List ℕ → ℕ) → List ℕ → Type 0
CountsOneMore old new key = (q : List ℕ) → new q ≡ old q + (if same key q then 1 else 0)

-- a step is counted where it begins, if it has no condition
abbrev pub CountsPlainly : (List ℕ → ℕ) → (List ℕ → ℕ) → StepTree → Type 0
CountsPlainly old new s = (q : List ℕ) → new q ≡ old q + (if same s.origin q && has_none s.placed then 1 else 0)

-- how many steps begin at the place with a key
abbrev pub beginning : List StepTree → List ℕ → ℕ
beginning steps key = count_by (λ (s : StepTree). same s.origin key) steps

-- how many steps without a condition begin there
abbrev pub beginning_plainly : List StepTree → List ℕ → ℕ
beginning_plainly steps key = count_by (λ (s : StepTree). same s.origin key && has_none s.placed) steps

-- ---- the names of a graph

abbrev pub name_of_state : State → Name
name_of_state s = s.name

-- the name of a point of a kind
abbrev pub name_of_kind : PointKind → Point → Option Name
name_of_kind kind p = if is_kind kind p.kind then Some p.name else None

abbrev pub point_names : PointKind → Graph → List Name
point_names kind g = filter_map (name_of_kind kind) g.points

-- ---- the graphs of a chart

-- the place where the initial transitions of a graph begin, by which a graph is found
abbrev pub border_key : Graph → List ℕ
border_key g = 0 ∷ codes g.owner

abbrev pub border_keys : List Graph → List (List ℕ)
border_keys graphs = map border_key graphs
