use Rattle.std.proofs.Common.{◌==◌, ◌&&◌, not}
use Rattle.room_kinds.specs.declared.system.SysKind.TheVariants as kinds
use Rattle.actor_duties.specs.Lives.{create_done}
use Rattle.actor_duties.specs.Frame.{frame_duty_of, only_sends, is_answer}
use Rattle.frame_service.specs.State.{frame_in}
use Rattle.frame_service.proofs.FormLemmas.{plain_fit}
use Rattle.frame_service.proofs.DutyLemmas.{sent_done}
use Rattle.frame_service.proofs.state.FrameState.hear_create_done.Goals as goal

pub returns : goal.returns
returns c =
    let t = c.args.wiring.now in
    let s = c.args.self.now in
    let me = s.me.0 in
    let m = c.args.m.now in
    let new = c.args.new in
    let container = c.args.container in
    sent_done t s (create_done t me new container) (frame_duty_of t me (frame_in s) m kinds.CreateDone new container) c.args.out.now c.create_done.new.out c.nothing.result c.requires.fits
    c.in_ok-create_done.ensures
    (plain_fit (frame_in s) (is_answer t me new container && not (new.generation.0 == 0)) m.payload (only_sends (frame_in s) (create_done t me new container)) c.requires.form)
    c.nothing.ensures
