use Rattle.std.proofs.Common.{◌≡◌, take, map}
use Rattle.std.specs.List.{filter_map}
use Rattle.room_ast.specs.Trees.{class_view}
use Rattle.room_ast.specs.model_parts.Classes.{as_protocol}
use Rattle.check_scopes.specs.class_scopes.ByKinds.{signals_by}
use Rattle.check_scopes.specs.class_scopes.Signals.{map_signals}
use Rattle.check_scopes.specs.class_scopes.Views.{signal_view}
use Rattle.check_scopes.proofs.class_scopes.protocols.signals_of_classes.Given as goal

abbrev pub invariant-loop-class : goal.invariant-loop-class
invariant-loop-class l = map (map_signals signal_view) l.table.items ≡ map (signals_by l.names l.kinds) (filter_map as_protocol (map class_view (take l.class-index l.classes)))
