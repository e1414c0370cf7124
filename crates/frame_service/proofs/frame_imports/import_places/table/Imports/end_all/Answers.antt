use Rattle.frame_service.specs.frame_imports.import_places.Lending.{lending}
use Rattle.frame_service.proofs.frame_imports.import_places.Ended.{where_next}
use Rattle.frame_service.proofs.frame_imports.import_places.table.Imports.end_all.Goals as goal

pub loop-actor-preserved : goal.loop-actor-preserved
loop-actor-preserved c =
    where_next c.args.wiring.now (lending c.args.self.now) (lending c.loop-actor.self) (lending c.forget.new.self) c.args.ended.now c.loop-actor.actor-index _
    c.loop-actor-test.true c.forget.ensures c.loop-actor.invariant
