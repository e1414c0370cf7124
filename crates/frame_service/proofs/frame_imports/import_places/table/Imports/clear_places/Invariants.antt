use Rattle.std.proofs.Common.{◌-◌}
use Rattle.frame_service.specs.frame_imports.import_places.Lending.{lending}
use Rattle.frame_service.proofs.frame_imports.import_places.Ended.{Clearing}
use Rattle.frame_service.proofs.frame_imports.import_places.table.Imports.clear_places.Given as goal

abbrev pub invariant-loop-part : goal.invariant-loop-part
invariant-loop-part l = Clearing l.wiring l.fn.container.0 l.end (lending l.initial.self) (lending l.self) l.part

abbrev pub decreases-loop-part : goal.decreases-loop-part
decreases-loop-part l = l.end - l.part
