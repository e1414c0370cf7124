use Rattle.std.proofs.Common.{◌∙◌, ◌^◌, sym}
use Rattle.wiring_places.proofs.place_pairs.ClassSteps.{sizes, ends, container_below, container_more, container_end}
use Rattle.wiring_places.proofs.place_pairs.containers.container_pairs.Goals as goal

pub add_container-requires-clause-sizes : goal.add_container-requires-clause-sizes
add_container-requires-clause-sizes c = sizes c.args.plan.now c.args.slots.now c.args.containers.now c.requires.containers c.loop-c.c _ _ _ c.loop-c-test.true c.index-containers-c.is c.class_of_container-class.ensures c.stretches_of-stretches.ensures

pub add_container-requires-clause-ends : goal.add_container-requires-clause-ends
add_container-requires-clause-ends c = ends c.args.plan.now c.args.slots.now c.args.containers.now c.requires.containers c.loop-c.c _ _ c.loop-c-test.true c.index-containers-c.is c.stretches_of-stretches.ensures c.requires.taken

pub add_container-requires-clause-faces : goal.add_container-requires-clause-faces
add_container-requires-clause-faces c = (
  c.args.slots.now,
  c.requires.children,
  container_below c.args.plan.now c.args.slots.now c.args.containers.now c.requires.containers c.args.first_ports.now c.args.spans.now (2 ^ 32) c.loop-c.c _ _ _ c.loop-c-test.true c.index-containers-c.is c.class_of_container-class.ensures c.stretches_of-stretches.ensures c.requires.faces,
)

pub loop-c-preserved : goal.loop-c-preserved
loop-c-preserved c =
    container_more c.args.plan.now c.args.slots.now c.args.containers.now c.requires.containers c.args.first_ports.now c.args.spans.now c.loop-c.c _ _ _ _ _ c.loop-c-test.true c.index-containers-c.is c.class_of_container-class.ensures c.stretches_of-stretches.ensures
    (c.in_ok-add_container.ensures c.args.slots.now c.requires.children) ∙ c.loop-c.invariant

pub returns : goal.returns
returns c = sym (container_end c.args.plan.now c.args.slots.now c.args.containers.now c.requires.containers c.args.first_ports.now c.args.spans.now c.loop-c.c _ c.loop-c-test.false) ∙ c.loop-c.invariant
