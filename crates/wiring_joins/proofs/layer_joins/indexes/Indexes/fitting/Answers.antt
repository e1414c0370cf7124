use Rattle.std.proofs.Common.{◌∙◌, sym, ap, Some}
use Rattle.std.specs.Option.{option_copied}
use Rattle.wiring_places.specs.place_rules.Layers.{fitting}
use Rattle.wiring_places.specs.place_rules.Parts.{container_class}
use Rattle.wiring_joins.proofs.layer_joins.Lookups.{fitting_none, fitting_inside}
use Rattle.wiring_joins.proofs.layer_joins.indexes.Indexes.fitting.Goals as goal

pub returns-in_default : goal.returns-in_default
returns-in_default c =
    sym (ap (λ q. fitting c.args.plan.now (container_class c.args.plan.now c.args.slots.now c.args.container) c.args.reference q) c.in_default.is ∙ fitting_none c.args.plan.now (container_class c.args.plan.now c.args.slots.now c.args.container) c.args.reference)

pub returns : goal.returns
returns c =
    c.fitting_inside.ensures ∙ fitting_inside c.args.plan.now c.args.slots.now c.args.container c.args.reference (Some c.in-Some.protocol) (option_copied c.slot_at-slot.result) c.if-container-eq0.false (sym c.slot_at-slot.ensures)
    ∙ ap (λ q. fitting c.args.plan.now (container_class c.args.plan.now c.args.slots.now c.args.container) c.args.reference q) (sym c.in-Some.is)
