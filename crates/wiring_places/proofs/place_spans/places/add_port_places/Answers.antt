use Rattle.std.proofs.Common.{◌∙◌, sym}
use Rattle.wiring_places.proofs.place_spans.RowSteps.{port_end}
use Rattle.wiring_places.proofs.place_spans.places.add_port_places.Goals as goal

pub returns : goal.returns
returns c = sym (port_end c.args.imported c.args.slot c.args.counts.now c.args.row c.args.ports.now c.loop-p.p _ c.loop-p-test.false) ∙ c.loop-p.invariant
