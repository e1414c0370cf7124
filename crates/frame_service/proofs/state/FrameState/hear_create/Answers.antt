use Rattle.room_kinds.specs.declared.system.SysKind.TheVariants as kinds
use Rattle.actor_duties.specs.Lives.{create}
use Rattle.actor_duties.specs.Frame as duties
use Rattle.actor_duties.specs.Frame.{frame_duty_of, is_request}
use Rattle.frame_lives.specs.Shown.{shown}
use Rattle.frame_service.specs.State.{frame_in}
use Rattle.frame_service.proofs.FormLemmas.{asked_there, plain_fit}
use Rattle.frame_service.proofs.DutyLemmas.{lives_done}
use Rattle.frame_service.proofs.state.FrameState.hear_create.Goals as goal

pub create-requires : goal.create-requires
unfolding frame_in
create-requires c = record {
  site = record { order = c.requires.fits.order; runs = c.requires.fits.runs };
  there = asked_there c.args.wiring.now c.args.self.now.me.0 c.args.m.now.payload kinds.Create c.args.from c.args.slot c.requires.form;
  whole = c.requires.fits.lives;
}

pub returns : goal.returns
unfolding frame_in
returns c =
    let t = c.args.wiring.now in
    let s = c.args.self.now in
    let me = s.me.0 in
    let m = c.args.m.now in
    let from = c.args.from in
    let slot = c.args.slot in
    let step = create t me (shown s.lives).lives m slot.slot.0 from in
    lives_done t s c.create.new.self step (frame_duty_of t me (frame_in s) m kinds.Create from slot) c.args.out.now c.create.new.out c.in_ok-done.done c.requires.fits
    c.in_ok-done.ensures.known c.in_ok-done.ensures.sent c.in_ok-done.ensures.done
    (plain_fit (frame_in s) (is_request t me from slot) m.payload (duties.with_lives (frame_in s) step) c.requires.form)
