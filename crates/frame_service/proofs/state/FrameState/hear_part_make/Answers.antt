use Rattle.room_kinds.specs.declared.system.SysKind.TheVariants as kinds
use Rattle.actor_duties.specs.Lives.{part_make}
use Rattle.actor_duties.specs.Frame as duties
use Rattle.actor_duties.specs.Frame.{frame_duty_of, is_part_told}
use Rattle.frame_lives.specs.Shown.{shown}
use Rattle.frame_service.specs.State.{frame_in}
use Rattle.frame_service.proofs.FormLemmas.{part_there, plain_fit}
use Rattle.frame_service.proofs.DutyLemmas.{lives_done}
use Rattle.frame_service.proofs.state.FrameState.hear_part_make.Goals as goal

pub part_make-requires : goal.part_make-requires
unfolding frame_in
part_make-requires c = record {
  site = record { order = c.requires.fits.order; runs = c.requires.fits.runs };
  there = part_there c.args.wiring.now c.args.self.now.me.0 c.args.m.now.payload c.args.actor c.args.again c.requires.form;
  whole = c.requires.fits.lives;
}

pub returns : goal.returns
unfolding frame_in
returns c =
    let t = c.args.wiring.now in
    let s = c.args.self.now in
    let me = s.me.0 in
    let m = c.args.m.now in
    let actor = c.args.actor in
    let again = c.args.again in
    let step = part_make t me (shown s.lives).lives actor.slot.0 in
    lives_done t s c.part_make.new.self step (frame_duty_of t me (frame_in s) m kinds.PartMake actor again) c.args.out.now c.part_make.new.out c.in_ok-done.done c.requires.fits
    c.in_ok-done.ensures.known c.in_ok-done.ensures.sent c.in_ok-done.ensures.done
    (plain_fit (frame_in s) (is_part_told t me actor again) m.payload (duties.with_lives (frame_in s) step) c.requires.form)
