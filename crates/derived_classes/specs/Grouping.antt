-- Refinements in groups, by the first of their names.
use Rattle.std.specs.Prelude.{ℕ, zero, suc, List, [], ◌∷◌, ◌++◌, position, Option, Some, None, slice_get}
use Rattle.std.specs.List.{filter_map}
use Rattle.std.specs.Option.{option_and_then, option_map_or, option_to_list}
use Rattle.name_tables.specs.name_numbers.Names.{same}
use Rattle.room_ast.specs.ChartTree.{ChangeTree}
use Rattle.room_ast.specs.declared.chart.Code.{Code}
use Rattle.derived_classes.specs.Refining.{Refining, code_of}

-- The refinements of one group, one name further, and what those of them add that are of a transition of the group's name.
pub record GroupTree : Type 0 where
  pub inside : List Refining
  pub actions : List Code

abbrev pub no_group : GroupTree
no_group = record { inside = []; actions = [] }

-- The first of the names of a refinement.
abbrev pub first_of : List (List ℕ) → Option (List ℕ)
first_of [] = None
first_of (name ∷ names) = Some name

abbrev pub first_names : List Refining → List (List ℕ)
first_names rs = filter_map (λ (r : Refining). first_of r.path) rs

abbrev pub gathered : GroupTree → Refining → GroupTree
gathered g r = record { inside = g.inside ++ r ∷ []; actions = g.actions ++ option_to_list (code_of r.path r.change) }

abbrev pub gathered_at : List GroupTree → ℕ → Refining → List GroupTree
gathered_at [] k r = []
gathered_at (g ∷ gs) zero r = gathered g r ∷ gs
gathered_at (g ∷ gs) (suc k) r = g ∷ gathered_at gs k r

-- The groups with one more refinement, where these are their names.
abbrev pub gather : List (List ℕ) → List (List ℕ) → ChangeTree → List GroupTree → List GroupTree
gather names [] change gs = gs
gather names (name ∷ others) change gs = option_map_or (λ k. gathered_at gs k (record { path = others; change = change })) (position (same name) names) gs

abbrev pub gather_all : List (List ℕ) → List Refining → List GroupTree → List GroupTree
gather_all names [] gs = gs
gather_all names (r ∷ rs) gs = gather_all names rs (gather names r.path r.change gs)

abbrev pub group_of : List (List ℕ) → List GroupTree → List ℕ → Option GroupTree
group_of names gs name = option_and_then (slice_get gs) (position (same name) names)

abbrev pub inside_of : List (List ℕ) → List GroupTree → List ℕ → List Refining
inside_of names gs name = option_map_or (λ (g : GroupTree). g.inside) (group_of names gs name) []

abbrev pub actions_of : List (List ℕ) → List GroupTree → List ℕ → List Code
actions_of names gs name = option_map_or (λ (g : GroupTree). g.actions) (group_of names gs name) []
