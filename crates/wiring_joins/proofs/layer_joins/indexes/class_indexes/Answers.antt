use Rattle.wiring_joins.proofs.layer_joins.Lookups.{index_more}
use Rattle.wiring_joins.proofs.layer_joins.indexes.class_indexes.Goals as goal

pub loop-class-preserved : goal.loop-class-preserved
loop-class-preserved c = index_more _ _ _ _ _ _ _ c.loop-class-test.true c.class-item.is c.loop-class.invariant c.in_ok-class_index.ensures c.in_ok-push.ensures.items
