-- Mappings of which what each adds to the path before it is kept.
use Rattle.std.specs.Prelude.{ℕ, ◌+◌, ◌<◌, ◌≤◌, ◌^◌, List, [], ◌∷◌, ◌++◌, length, take}
use Rattle.wiring_slots.specs.declared.slot_tree.mapping_order.Continued.{Continued}
use Rattle.wiring_slots.specs.declared.slot_tree.names.MappingPlan.{MappingPlan}
use Rattle.wiring_slots.specs.declared.slot_tree.names.StepPlan.{StepPlan}
use Rattle.wiring_slots.specs.slot_tree.MappingOrders.{AreEnds}

-- The whole path of a mapping, behind one with these steps.
abbrev pub whole_steps : List StepPlan → Continued → List StepPlan
whole_steps before c = take c.kept before ++ c.own.steps

-- A mapping with its whole path.
abbrev pub whole : List StepPlan → Continued → MappingPlan
whole before c = record { steps = whole_steps before c; controller = c.own.controller }

-- Mappings with their whole paths, the first behind one with these steps.
abbrev pub plans_behind : List StepPlan → List Continued → List MappingPlan
plans_behind before [] = []
plans_behind before (c ∷ cs) = whole before c ∷ plans_behind (whole_steps before c) cs

-- The steps of the last of these mappings; where there is none, the steps before them.
abbrev pub last_steps : List StepPlan → List MappingPlan → List StepPlan
last_steps before [] = before
last_steps before (m ∷ ms) = last_steps m.steps ms

-- Each mapping keeps steps that there are, and has fewer than 2^64 together.
abbrev pub AreContinued : List StepPlan → List Continued → Type 0
AreContinued before [] = Unit {0}
AreContinued before (c ∷ cs) = (c.kept ≤ length before) × (c.kept + length c.own.steps < 2 ^ 64) × AreContinued (whole_steps before c) cs

-- What is kept of mappings, with their ends.
pub record IsOrder (kept : List Continued) (ends : List ℕ) : Type 0 where
  pub continued : AreContinued [] kept
  pub ended : AreEnds (plans_behind [] kept) ends

-- One more mapping, whose path has the first so many steps of the last one's, and its own.
abbrev pub with_mapping : ℕ → MappingPlan → List MappingPlan → List MappingPlan
with_mapping kept own ms = ms ++ whole (last_steps [] ms) (record { kept = kept; own = own }) ∷ []
