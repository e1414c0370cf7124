use Rattle.wiring_places.proofs.place_spans.ContainerSteps.{is_of_imported, is_of_missing}
use Rattle.wiring_places.proofs.place_spans.containers.inside_stretches.Goals as goal

pub returns-then-is_imported : goal.returns-then-is_imported
returns-then-is_imported c = is_of_imported _ c.args.slot.now _ c.if-is_imported.ensures c.no_stretches.ensures.stretches c.no_stretches.ensures.taken

pub returns-in-None : goal.returns-in-None
returns-in-None c = is_of_missing c.args.plan.now c.args.slot.now _ _ _ c.if-is_imported.ensures c.as_slice.ensures c.from.ensures c.in-None.ensures.lookup.3 c.no_stretches-in-None.ensures.stretches c.no_stretches-in-None.ensures.taken
