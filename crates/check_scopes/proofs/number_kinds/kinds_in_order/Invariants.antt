use Rattle.std.proofs.Common.{◌≡◌, length, map}
use Rattle.number_graphs.specs.class_containment.Containment.{IsContainmentOrder}
use Rattle.check_tables.specs.containment_rules.Circles.{classes_of_types}
use Rattle.check_scopes.proofs.number_kinds.KindLaws.{Noted}
use Rattle.check_scopes.proofs.number_kinds.kinds_in_order.Given as goal

abbrev pub invariant-loop-class : goal.invariant-loop-class
invariant-loop-class l =
    (length l.table.items ≡ length l.classes) × (IsContainmentOrder (map classes_of_types l.classes) l.order → Noted l.classes l.order l.class-index l.table.items)
