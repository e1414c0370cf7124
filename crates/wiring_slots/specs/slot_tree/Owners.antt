-- Which mappings lead to a slot, and who owns it.
use Rattle.std.specs.Prelude.{ℕ, ◌+◌, ◌&&◌, ◌==◌, Bool, true, List, [], ◌∷◌, length, Option, Some, None, option_and_then, unwrap_or, slice_get, if◌then◌else◌}
use Rattle.std.specs.List.{filter_map}
use Rattle.std.specs.Option.{option_map_or}
use Rattle.room_kinds.specs.declared.numbers.ControllerId.{ControllerId}
use Rattle.wiring_slots.specs.declared.slot_tree.names.MappingPlan.{MappingPlan}
use Rattle.wiring_slots.specs.declared.slot_tree.names.StepPlan.{StepPlan}
use Rattle.wiring_slots.specs.declared.slot_tree.owners.Trail.{Trail}

-- A step without an index fits every index.
abbrev pub index_fits : Option ℕ → ℕ → Bool
index_fits wanted index = option_map_or (λ i. i == index) wanted true

abbrev pub step_fits : StepPlan → ℕ → ℕ → Bool
step_fits s reference index = (s.reference == reference) && index_fits s.index index

-- One step further on this trail, where the step is that of this reference and index.
abbrev pub stepped : Trail → ℕ → ℕ → StepPlan → Option Trail
stepped t reference index s = if step_fits s reference index then Some (record { mapping = t.mapping; steps = t.steps + 1 }) else None

-- The step with which a trail goes on, if its mapping has more of them.
abbrev pub next_step : List MappingPlan → Trail → Option StepPlan
next_step mappings t = option_and_then (λ (m : MappingPlan). slice_get m.steps t.steps) (slice_get mappings t.mapping)

-- The trail one step further, where its mapping goes on with this reference and index.
abbrev pub goes_on : List MappingPlan → ℕ → ℕ → Trail → Option Trail
goes_on mappings reference index t = option_and_then (stepped t reference index) (next_step mappings t)

-- The trails of a container that lead to its slot of this reference and index.
unfoldable pub trails_at : List MappingPlan → ℕ → ℕ → List Trail → List Trail
trails_at mappings reference index trails = filter_map (goes_on mappings reference index) trails

-- The controller of a trail's mapping, where the trail has all its steps.
abbrev pub mapped_at : List MappingPlan → Trail → Option ControllerId
mapped_at mappings t = option_and_then (λ (m : MappingPlan). if t.steps == length m.steps then Some m.controller else None) (slice_get mappings t.mapping)

-- The controller of the last declared mapping that ends at a slot; where none does, that of its container. So the mapping of most segments that leads to a slot or a container of it counts, and among equal ones the last declared.
abbrev pub owner_at : List MappingPlan → ControllerId → List Trail → ControllerId
owner_at mappings owner [] = owner
owner_at mappings owner (t ∷ ts) = owner_at mappings (unwrap_or (mapped_at mappings t) owner) ts
