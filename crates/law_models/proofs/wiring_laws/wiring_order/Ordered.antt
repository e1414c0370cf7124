-- The slots of a model are those of its structure.
use Rattle.std.proofs.Common.{◌≡◌}
use Rattle.room_ast.specs.Trees.{ModelTree}
use Rattle.room_wiring.specs.declared.tables.Tables.{Tables}
use Rattle.wiring_plan.specs.structure_plan.Plans.{plan_of}
use Rattle.wiring_slots.specs.slot_names.Names.{wired_names}
use Rattle.wiring_slots.specs.model_slots.Answers.{slots_in}
use Rattle.service_messages.specs.slot_runs.Runs.{IsDepthFirst}
use Rattle.law_models.proofs.wiring_laws.slot_order.Trees.{tree_depth_first}

pub model_depth_first : (m : ModelTree) (t : Tables) → t.slots ≡ slots_in m → IsDepthFirst t
unfolding slots_in
model_depth_first m t same = tree_depth_first (plan_of m) (wired_names m).slots (wired_names m).mappings t same
