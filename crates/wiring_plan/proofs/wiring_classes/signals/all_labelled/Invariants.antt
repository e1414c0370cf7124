use Rattle.std.proofs.Common.{◌≡◌, ◌++◌, drop, map}
use Rattle.check_scopes.specs.class_scopes.Views.{signal_view}
use Rattle.wiring_plan.specs.wiring_classes.Parts.{labelled}
use Rattle.wiring_plan.proofs.wiring_classes.signals.all_labelled.Given as goal

abbrev pub invariant-loop-signal : goal.invariant-loop-signal
invariant-loop-signal l = l.all.items ++ map labelled (map signal_view (drop l.signal-index l.signals)) ≡ map labelled (map signal_view l.signals)
