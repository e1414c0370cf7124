use Rattle.std.proofs.Common.{◌≡◌, take, map}
use Rattle.check_scopes.specs.class_scopes.ByKinds.{signal_by}
use Rattle.check_scopes.specs.class_scopes.Views.{signal_view}
use Rattle.check_scopes.proofs.class_scopes.protocols.signals_of.Given as goal

abbrev pub invariant-loop-message : goal.invariant-loop-message
invariant-loop-message l = map signal_view l.signals.items ≡ map (signal_by l.names l.kinds) (take l.message-index l.messages)
