-- Whether refinements name what the flat charts of bases have, with no more of the flat charts than is still needed.
use Rattle.std.specs.Prelude.{◌≡◌, ℕ, ◌+◌, ◌<◌, ◌≤◌, Bool, true, false, nat_lt, List, [], ◌∷◌, length, Option, Some, None, slice_set, slice_index, if◌then◌else◌}
use Rattle.std.specs.Option.{option_map_or, option_and_then}
use Rattle.room_ast.specs.ChartTree.{GraphItems}
use Rattle.room_ast.specs.Trees.{ClassTree, ActorTree}
use Rattle.room_ast.specs.model_parts.Classes.{number_in}
use Rattle.room_inherit.specs.Filling.{base_there}
use Rattle.room_inherit.specs.Flat.{actor_at}
use Rattle.derived_classes.specs.Derived.{chart_over, graph_of, refinements_of, chart_is_known}

-- The number of the class that an actor class extends.
abbrev pub above : List (List ℕ) → ActorTree → Option ℕ
above names a = option_and_then (number_in names) a.base

-- The same of the class of a number.
abbrev pub above_at : List (List ℕ) → List ClassTree → ℕ → Option ℕ
above_at names classes k = option_and_then (above names) (actor_at classes k)

-- For each class the last place, of those below n, at which a class stands that extends it.
pub record HasLastUses (names : List (List ℕ)) (classes : List ClassTree) (order : List ℕ) (n : ℕ) (last : List ℕ) : Type 0 where
  pub sized : length last ≡ length classes
  pub latest : (e b : ℕ) → e < n → above_at names classes (slice_index order e) ≡ Some b → b < length last → e ≤ slice_index last b

-- The last uses, with this place the last use of this class.
abbrev pub noted : List ℕ → ℕ → Option ℕ → List ℕ
noted last place None = last
noted last place (Some b) = slice_set last b place

-- Whether what was taken of a class is still needed behind a place.
abbrev pub is_needed_later : List ℕ → ℕ → ℕ → Bool
is_needed_later last place k = nat_lt place (slice_index last k)

-- The charts without that of a class, unless it is needed later.
abbrev pub let_go : List ℕ → ℕ → Option ℕ → List (Option GraphItems) → List (Option GraphItems)
let_go last place None charts = charts
let_go last place (Some b) charts = if is_needed_later last place b then charts else slice_set charts b None

-- The charts with that of a class, if it is needed later.
abbrev pub keep : List ℕ → ℕ → ℕ → GraphItems → List (Option GraphItems) → List (Option GraphItems)
keep last place k chart charts = if is_needed_later last place k then slice_set charts k (Some chart) else charts

-- Whether the refinements of a class name what the chart of its base has.
abbrev pub known_there : ActorTree → Option GraphItems → Bool
known_there own chart = option_map_or (λ g. chart_is_known g own) chart true

-- The charts once the class of a number is judged; none where it refines what isn't there.
abbrev pub with_chart_of : List (List ℕ) → List ℕ → ℕ → List (Option GraphItems) → ℕ → Option ActorTree → Option (List (Option GraphItems))
with_chart_of names last place charts k None = Some charts
with_chart_of names last place charts k (Some a) =
    if known_there a (base_there names charts a) then Some (keep last place k (chart_over a (base_there names charts a)) (let_go last place (above names a) charts)) else None

abbrev pub with_chart : List (List ℕ) → List ClassTree → List ℕ → ℕ → List (Option GraphItems) → ℕ → Option (List (Option GraphItems))
with_chart names classes last place charts k = with_chart_of names last place charts k (actor_at classes k)

-- Whether the classes of these numbers, which stand from a place on, refine only what is there.
abbrev pub judged : List (List ℕ) → List ClassTree → List ℕ → ℕ → List ℕ → List (Option GraphItems) → Bool
judged names classes last place [] charts = true
judged names classes last place (k ∷ ks) charts = option_map_or (judged names classes last (place + 1) ks) (with_chart names classes last place charts k) false
