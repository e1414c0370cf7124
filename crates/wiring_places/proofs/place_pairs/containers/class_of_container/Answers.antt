use Rattle.std.proofs.Common.{◌∙◌, sym, ap}
use Rattle.wiring_places.specs.place_rules.Parts.{container_class, inside_of}
use Rattle.wiring_places.proofs.place_pairs.ClassSteps.{slot_class}
use Rattle.wiring_places.proofs.place_pairs.containers.class_of_container.Goals as goal

pub returns-then-container-eq0 : goal.returns-then-container-eq0
returns-then-container-eq0 c = ap (container_class c.args.plan.now c.args.slots.now) (sym c.if-container-eq0.true)

pub returns : goal.returns
returns c = c.inside_class.ensures ∙ ap (inside_of c.args.plan.now) c.slot_at-slot.ensures ∙ slot_class c.args.plan.now c.args.slots.now c.args.container c.if-container-eq0.false
