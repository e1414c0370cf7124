use Rattle.room_kinds.specs.declared.system.SysKind.TheVariants as kinds
use Rattle.actor_duties.specs.Imports.{import}
use Rattle.actor_duties.specs.Frame as duties
use Rattle.actor_duties.specs.Frame.{frame_duty_of, is_forth}
use Rattle.frame_lives.specs.Shown.{shown}
use Rattle.frame_service.specs.frame_imports.import_places.Lending.{lending}
use Rattle.frame_service.specs.State.{frame_in}
use Rattle.frame_service.proofs.FormLemmas.{forth_there, plain_fit}
use Rattle.frame_service.proofs.DutyLemmas.{plugs_done}
use Rattle.frame_service.proofs.state.FrameState.hear_import.Goals as goal

pub import-requires-clause-there : goal.import-requires-clause-there
import-requires-clause-there c =
    let t = c.args.wiring.now in
    let s = c.args.self.now in
    let me = s.me.0 in
    let m = c.args.m.now in
    let place = c.args.place in
    let home = c.args.home in
    forth_there t me m.payload place home c.requires.form

pub returns : goal.returns
unfolding frame_in
returns c =
    let t = c.args.wiring.now in
    let s = c.args.self.now in
    let me = s.me.0 in
    let m = c.args.m.now in
    let place = c.args.place in
    let home = c.args.home in
    plugs_done t s c.import.new.imports (import t me (shown s.lives).lives (lending s.imports).plugs m place home) (frame_duty_of t me (frame_in s) m kinds.Import place home) c.args.out.now c.import.new.out c.nothing.result c.requires.fits
    c.in_ok-import.ensures.now c.in_ok-import.ensures.sent
    (plain_fit (frame_in s) (is_forth t me place home) m.payload (duties.with_plugs (frame_in s) (import t me (shown s.lives).lives (lending s.imports).plugs m place home)) c.requires.form)
    c.nothing.ensures
