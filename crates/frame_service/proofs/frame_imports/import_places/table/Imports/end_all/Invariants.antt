use Rattle.std.proofs.Common.{◌≡◌, drop}
use Rattle.frame_lives.specs.Steps.{is_among}
use Rattle.frame_service.specs.frame_imports.import_places.Lending.{Lending, lending, forgotten_where}
use Rattle.frame_service.proofs.frame_imports.import_places.table.Imports.end_all.Given as goal

abbrev pub invariant-loop-actor : goal.invariant-loop-actor
invariant-loop-actor l =
    ◌≡◌ {A = Lending}
    (forgotten_where l.wiring (is_among l.ended) (lending l.initial.self))
    (forgotten_where l.wiring (is_among (drop l.actor-index l.ended)) (lending l.self))
