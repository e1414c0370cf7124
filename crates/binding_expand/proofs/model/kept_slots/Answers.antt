use Rattle.room_ast.specs.Trees.{model_view}
use Rattle.structure_check.proofs.KeptRules.{all_finite, all_few}
use Rattle.wiring_slots.proofs.wired_laws.Few.{numbered_from_few}
use Rattle.binding_expand.proofs.model.kept_slots.Goals as goal

pub slots_within-requires-clause-finite : goal.slots_within-requires-clause-finite
slots_within-requires-clause-finite c = all_finite (model_view c.args.model.now) c.requires

pub slots_within-requires-clause-numbered : goal.slots_within-requires-clause-numbered
slots_within-requires-clause-numbered c = numbered_from_few (model_view c.args.model.now) (all_few (model_view c.args.model.now) c.requires)
