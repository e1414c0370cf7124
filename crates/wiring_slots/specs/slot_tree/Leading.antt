-- The trails of a container, sorted by the reference and the index with which they go on.
use Rattle.std.specs.Prelude.{◌≡◌, ℕ, ◌==◌, false, List, [], ◌++◌, map, Option, Some, None, slice_set, slice_index_or, if◌then◌else◌}
use Rattle.std.specs.List.{filter_map, range_with_len}
use Rattle.std.specs.Option.{option_map_or}
use Rattle.wiring_slots.specs.declared.slot_tree.names.MappingPlan.{MappingPlan}
use Rattle.wiring_slots.specs.declared.slot_tree.names.StepPlan.{StepPlan}
use Rattle.wiring_slots.specs.declared.slot_tree.owners.Trail.{Trail}
use Rattle.wiring_slots.specs.slot_tree.Owners.{next_step, trails_at}

-- More items at the end of the list with this number, if there is such a list.
abbrev pub added_at : {X : Type 0} → ℕ → List X → List (List X) → List (List X)
added_at number more lists = slice_set lists number (slice_index_or lists number [] ++ more)

-- More items at the end of each list.
abbrev pub added_to_each : {X : Type 0} → List X → List (List X) → List (List X)
added_to_each more lists = map (λ l. l ++ more) lists

-- A trail that goes on with this reference.
abbrev pub through : List MappingPlan → ℕ → Trail → Option Trail
through mappings reference t = if option_map_or (λ (s : StepPlan). s.reference == reference) (next_step mappings t) false then Some t else None

-- The trails that go on with this reference, in their order.
abbrev pub trails_through : List MappingPlan → List Trail → ℕ → List Trail
trails_through mappings trails reference = filter_map (through mappings reference) trails

-- For each of so many references, by number, the trails that go on with it.
unfoldable pub by_reference : List MappingPlan → ℕ → List Trail → List (List Trail)
by_reference mappings count trails = map (trails_through mappings trails) (range_with_len 0 count)

-- More trails are sorted by reference, behind those that were.
abbrev pub SortsByReference : List MappingPlan → List Trail → List (List Trail) → List (List Trail) → Type 0
SortsByReference mappings more old new = (count : ℕ) (done : List Trail) → old ≡ by_reference mappings count done → new ≡ by_reference mappings count (done ++ more)

-- For each of so many indexes, the trails of a container that lead to the slot of this reference and of the index.
unfoldable pub by_index : List MappingPlan → ℕ → ℕ → List Trail → List (List Trail)
by_index mappings reference count trails = map (λ i. trails_at mappings reference i trails) (range_with_len 0 count)

-- Trails are added to the list of their index, and where they have none to each.
abbrev pub added_by_index : Option ℕ → List Trail → List (List Trail) → List (List Trail)
added_by_index (Some index) more lists = added_at index more lists
added_by_index None more lists = added_to_each more lists

-- More trails are sorted, one step further, by the index with which they go on, behind those that were.
abbrev pub SortsByIndex : List MappingPlan → ℕ → List Trail → List (List Trail) → List (List Trail) → Type 0
SortsByIndex mappings reference more old new = (count : ℕ) (done : List Trail) → old ≡ by_index mappings reference count done → new ≡ by_index mappings reference count (done ++ more)
