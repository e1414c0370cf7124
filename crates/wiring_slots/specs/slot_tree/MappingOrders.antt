-- Mappings in order of declaration, each before those in its braces.
use Rattle.std.specs.Prelude.{◌≡◌, ℕ, ◌≤◌, ◌<◌, List, Some, None, length, get_or}
use Rattle.wiring_slots.specs.declared.slot_tree.names.MappingPlan.{MappingPlan}
use Rattle.wiring_slots.specs.declared.slot_tree.names.StepPlan.{StepPlan}
use Rattle.wiring_slots.specs.declared.slot_tree.runs.Run.{Run}
use Rattle.wiring_slots.specs.slot_tree.Owners.{next_step, mapped_at}
use Rattle.wiring_slots.specs.slot_tree.Runs.{trail_at, AreAlike}

-- As far as the path of a mapping goes, those behind it up to an end have the same steps.
abbrev pub EndsAlike : List MappingPlan → ℕ → ℕ → Type 0
EndsAlike plans first end = (j steps : ℕ) (s : StepPlan) → first ≤ j → j < end → next_step plans (trail_at steps first) ≡ Some s → next_step plans (trail_at steps j) ≡ Some s

-- The ends that are kept of mappings, and 0 behind them.
pub record AreEnds (plans : List MappingPlan) (ends : List ℕ) : Type 0 where
  pub room : length plans ≤ length ends
  pub fresh : (i : ℕ) → length plans ≤ i → get_or ends i 0 ≡ 0
  pub alike : (first : ℕ) → EndsAlike plans first (get_or ends first 0)

-- The first trails of what is left of a run from a mapping on: they go on alike, and at most the first one has all its steps.
pub record IsGroup (plans : List MappingPlan) (run : Run) (first : ℕ) (group : Run) : Type 0 where
  pub begins : group.first ≡ first
  pub steps : group.steps ≡ run.steps
  pub more : first < group.end
  pub within : group.end ≤ run.end
  pub alike : AreAlike plans group
  pub one : (j : ℕ) → first < j → j < group.end → mapped_at plans (trail_at run.steps j) ≡ None
