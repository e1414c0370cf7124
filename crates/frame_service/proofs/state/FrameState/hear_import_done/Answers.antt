use Rattle.room_kinds.specs.declared.system.SysKind.TheVariants as kinds
use Rattle.actor_duties.specs.Imports.{import_done}
use Rattle.actor_duties.specs.Frame as duties
use Rattle.actor_duties.specs.Frame.{frame_duty_of, is_back}
use Rattle.frame_lives.specs.Shown.{shown}
use Rattle.frame_service.specs.frame_imports.import_places.Lending.{lending}
use Rattle.frame_service.specs.State.{frame_in}
use Rattle.frame_service.proofs.FormLemmas.{plain_fit}
use Rattle.frame_service.proofs.DutyLemmas.{places_done}
use Rattle.frame_service.proofs.state.FrameState.hear_import_done.Goals as goal

pub returns : goal.returns
unfolding frame_in import_done
returns c =
    let t = c.args.wiring.now in
    let s = c.args.self.now in
    let me = s.me.0 in
    let m = c.args.m.now in
    let place = c.args.place in
    let home = c.args.home in
    places_done t s c.hear.new.imports (import_done t me (shown s.lives).lives (lending s.imports).places home place) (frame_duty_of t me (frame_in s) m kinds.ImportDone home place) c.args.out.now c.hear.new.out c.nothing.result c.requires.fits
    c.in_ok-hear.ensures.now c.in_ok-hear.ensures.sent
    (plain_fit (frame_in s) (is_back t me home place) m.payload (duties.with_places (frame_in s) (import_done t me (shown s.lives).lives (lending s.imports).places home place)) c.requires.form)
    c.nothing.ensures
