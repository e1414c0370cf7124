use Rattle.std.proofs.Common.{take}
use Rattle.wiring_joins.specs.layer_joins.Indexes.{AreClassIndexes}
use Rattle.wiring_joins.proofs.layer_joins.indexes.class_indexes.Given as goal

abbrev pub invariant-loop-class : goal.invariant-loop-class
invariant-loop-class l = AreClassIndexes l.plan (take l.class-index l.classes) l.indexes.items
