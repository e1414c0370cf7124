use Rattle.std.proofs.Common.{◌∙◌, sym}
use Rattle.wiring_joins.proofs.layer_joins.JoinSteps.{slot_joins_more, slot_joins_end}
use Rattle.wiring_joins.proofs.layer_joins.joins.slot_joins.Goals as goal

pub loop-s-preserved : goal.loop-s-preserved
loop-s-preserved c = slot_joins_more _ _ _ _ _ _ _ _ c.loop-s-test.true c.index-slots-s.is c.inside_ports-ports.ensures.ports c.in_ok-add_port_joins.ensures ∙ c.loop-s.invariant

pub returns : goal.returns
returns c = sym (slot_joins_end _ _ _ _ _ c.loop-s-test.false) ∙ c.loop-s.invariant
