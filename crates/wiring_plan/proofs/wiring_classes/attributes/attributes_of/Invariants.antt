use Rattle.std.proofs.Common.{◌≡◌, take, map}
use Rattle.std.specs.List.{filter_map}
use Rattle.room_ast.specs.model_parts.Attributes.{as_attribute}
use Rattle.wiring_plan.specs.wiring_classes.ByKinds.{attribute_by}
use Rattle.wiring_plan.proofs.wiring_classes.attributes.attributes_of.Given as goal

abbrev pub invariant-loop-item : goal.invariant-loop-item
invariant-loop-item l = l.all.items ≡ map (attribute_by l.names l.kinds) (filter_map as_attribute (take l.item-index l.items))
