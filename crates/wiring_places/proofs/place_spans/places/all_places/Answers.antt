use Rattle.std.proofs.Common.{◌∙◌, ap, arith, length, refl, sym}
use Rattle.wiring_places.proofs.place_spans.RowSteps.{slot_more, slot_end}
use Rattle.wiring_places.proofs.place_spans.places.all_places.Goals as goal

pub loop-s-preserved : goal.loop-s-preserved
loop-s-preserved c = (
  omega (arith, c.loop-s.invariant.0, c.requires.ports c.index-slots-s.result.class, ap length c.class_ports-ports.ensures),
  slot_more c.args.plan.now c.args.counts.now c.args.slots.now c.loop-s.s c.loop-s.row _ _ c.index-slots-s.result c.is_imported-imported.result c.class_ports-ports.result.now _ _ c.loop-s-test.true c.index-slots-s.is c.is_imported-imported.ensures c.class_ports-ports.ensures refl refl c.in_ok-add_port_places.ensures
      ∙ c.loop-s.invariant.1,
)

pub returns : goal.returns
returns c = sym (slot_end c.args.plan.now c.args.counts.now c.args.slots.now c.loop-s.s _ _ c.loop-s-test.false) ∙ c.loop-s.invariant.1
