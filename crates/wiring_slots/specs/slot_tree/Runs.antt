-- Trails of mappings that follow each other.
use Rattle.std.specs.Prelude.{◌≡◌, ℕ, ◌-◌, ◌≤◌, ◌<◌, List, map}
use Rattle.std.specs.List.{range_with_len}
use Rattle.wiring_slots.specs.declared.slot_tree.names.MappingPlan.{MappingPlan}
use Rattle.wiring_slots.specs.declared.slot_tree.owners.Trail.{Trail}
use Rattle.wiring_slots.specs.declared.slot_tree.runs.Run.{Run}
use Rattle.wiring_slots.specs.slot_tree.Owners.{next_step}

-- The trail of a mapping with so many steps.
abbrev pub trail_at : ℕ → ℕ → Trail
trail_at steps mapping = record { mapping = mapping; steps = steps }

-- The trails of the mappings from the first up to the end, each with so many steps.
abbrev pub trails_between : ℕ → ℕ → ℕ → List Trail
trails_between steps first end = map (trail_at steps) (range_with_len first (end - first))

abbrev pub trails_of : Run → List Trail
trails_of r = trails_between r.steps r.first r.end

-- All trails of a run go on as its first one does.
abbrev pub AreAlike : List MappingPlan → Run → Type 0
AreAlike mappings r = (j : ℕ) → r.first ≤ j → j < r.end → next_step mappings (trail_at r.steps j) ≡ next_step mappings (trail_at r.steps r.first)
