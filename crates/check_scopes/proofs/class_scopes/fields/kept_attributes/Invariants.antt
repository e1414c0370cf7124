use Rattle.std.proofs.Common.{◌≡◌, take, map}
use Rattle.std.specs.List.{filter_map}
use Rattle.check_scopes.specs.class_scopes.Fields.{field_view, kept_attribute}
use Rattle.check_scopes.proofs.class_scopes.fields.kept_attributes.Given as goal

abbrev pub invariant-loop-item : goal.invariant-loop-item
invariant-loop-item l = map field_view l.fields.items ≡ filter_map (kept_attribute l.names l.kinds) (take l.item-index l.items)
