use Rattle.std.proofs.Common.{◌≡◌, ◌++◌, drop, map}
use Rattle.check_scopes.specs.class_scopes.Signals.{map_signals}
use Rattle.check_scopes.specs.class_scopes.Views.{signal_view}
use Rattle.wiring_plan.specs.wiring_classes.Parts.{labelled}
use Rattle.wiring_plan.proofs.wiring_classes.signals.labelled_protocols.Given as goal

abbrev pub invariant-loop-signals : goal.invariant-loop-signals
invariant-loop-signals l =
    l.all.items ++ map (map_signals labelled) (map (map_signals signal_view) (drop l.signals-index l.protocols)) ≡ map (map_signals labelled) (map (map_signals signal_view) l.protocols)
