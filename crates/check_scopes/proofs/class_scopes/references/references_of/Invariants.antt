use Rattle.std.proofs.Common.{◌≡◌, take, map}
use Rattle.std.specs.List.{filter_map}
use Rattle.room_ast.specs.model_parts.References.{as_reference}
use Rattle.check_scopes.specs.class_scopes.Scopes.{reference_of}
use Rattle.check_scopes.specs.class_scopes.Views.{reference_view}
use Rattle.check_scopes.proofs.class_scopes.references.references_of.Given as goal

abbrev pub invariant-loop-item : goal.invariant-loop-item
invariant-loop-item l = map reference_view l.references.items ≡ map reference_of (filter_map as_reference (take l.item-index l.items))
