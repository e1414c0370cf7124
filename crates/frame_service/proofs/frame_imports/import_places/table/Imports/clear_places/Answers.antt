use Rattle.std.proofs.Common.{ℕ, ◌+◌, sym, subst}
use Rattle.frame_service.specs.frame_imports.import_places.Lending.{lending}
use Rattle.frame_service.proofs.frame_imports.import_places.Ended.{Clearing, clearing_begun, clearing_on, clearing_done}
use Rattle.frame_service.proofs.frame_imports.import_places.table.Imports.clear_places.Goals as goal

pub loop-part-init : goal.loop-part-init
loop-part-init c =
    subst (λ (n : ℕ). Clearing c.args.wiring.now c.args.container.0 c.end-end.result (lending c.args.self.now) (lending c.args.self.now) (n + 1)) (sym c.from-part.ensures)
    (clearing_begun c.args.wiring.now c.requires.order c.args.container.0 c.end-end.result (lending c.args.self.now) c.end-end.ensures.run)

pub loop-part-preserved : goal.loop-part-preserved
loop-part-preserved c =
    clearing_on c.args.wiring.now c.args.container.0 c.end-end.result (lending c.args.self.now) (lending c.loop-part.self) (lending c.clear_place.new.self)
    c.loop-part.part c.end-part.result c.end-end.ensures.run c.end-part.ensures.run c.loop-part-test.true c.clear_place.ensures c.loop-part.invariant

pub returns : goal.returns
returns c =
    clearing_done c.args.wiring.now c.requires.order c.args.container.0 c.end-end.result (lending c.args.self.now) (lending c.loop-part.self)
    c.loop-part.part c.end-end.ensures.run c.loop-part-test.false c.loop-part.invariant
