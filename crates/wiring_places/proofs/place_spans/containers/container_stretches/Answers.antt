use Rattle.std.proofs.Common.{◌+◌, ◌^◌, ◌<◌, subst}
use Rattle.wiring_places.specs.place_rules.Stretches.{all_taken}
use Rattle.wiring_places.proofs.place_spans.ContainerSteps.{inside, first_lacks, first_known, slot_lacks, slot_known, all_known}
use Rattle.wiring_places.proofs.place_spans.containers.container_stretches.Goals as goal

pub class_stretches-requires : goal.class_stretches-requires
class_stretches-requires c = c.requires 0

pub inside_stretches-requires : goal.inside_stretches-requires
inside_stretches-requires c = λ side.
    subst (λ class. all_taken c.args.plan.now class side < 2 ^ 64) (inside c.args.plan.now c.args.slots.now c.loop-slot.slot-index c.slot-item.result c.loop-slot-test.true c.slot-item.is) (c.requires (c.loop-slot.slot-index + 1) side)

pub returns-then-has_idle_binding : goal.returns-then-has_idle_binding
returns-then-has_idle_binding c = first_lacks _ _ c.in_ok-subsystem.subsystem _ (record { stretches = c.in_ok-subsystem.ensures.stretches; taken = c.in_ok-subsystem.ensures.taken }) c.has_idle_binding.ensures c.if-has_idle_binding.true

pub loop-slot-init : goal.loop-slot-init
loop-slot-init c = first_known _ _ c.in_ok-subsystem.subsystem _ _ _ (record { stretches = c.in_ok-subsystem.ensures.stretches; taken = c.in_ok-subsystem.ensures.taken }) c.has_idle_binding.ensures c.if-has_idle_binding.false c.new-containers.ensures.items c.in_ok-push.ensures.items

pub returns-then-has_idle_binding-2 : goal.returns-then-has_idle_binding-2
returns-then-has_idle_binding-2 c = slot_lacks _ _ _ _ _ _ _ c.loop-slot-test.true c.slot-item.is c.loop-slot.invariant c.in_ok-inside.ensures c.has_idle_binding-in-loop-slot.ensures c.if-has_idle_binding-2.true

pub loop-slot-preserved : goal.loop-slot-preserved
loop-slot-preserved c = slot_known _ _ _ _ _ _ _ _ c.loop-slot-test.true c.slot-item.is c.loop-slot.invariant c.in_ok-inside.ensures c.has_idle_binding-in-loop-slot.ensures c.if-has_idle_binding-2.false c.in_ok-push-2.ensures.items

pub returns : goal.returns
returns c = all_known _ _ _ _ c.loop-slot.auto.slot-index-end c.loop-slot-test.false c.loop-slot.invariant
