use Rattle.std.proofs.Common.{◌==◌, ◌&&◌, ℤ, SFits, w64, rules, ap, ◌∙◌, ◌++◌}
use Rattle.std.proofs.lemmas.Int.{to_z-of_z}
use Rattle.room_kinds.specs.declared.system.SysKind.TheVariants as kinds
use Rattle.actor_duties.specs.Lives.{create_refused}
use Rattle.actor_duties.specs.Frame.{frame_duty_of, only_sends, is_answer}
use Rattle.frame_service.specs.State.{frame_in}
use Rattle.frame_service.specs.Forms.{first_number}
use Rattle.frame_service.proofs.FormLemmas.{number_fit}
use Rattle.frame_service.proofs.DutyLemmas.{sent_done}
use Rattle.frame_service.proofs.state.FrameState.hear_create_refused.Goals as goal

pub returns : goal.returns
returns c =
    let t = c.args.wiring.now in
    let s = c.args.self.now in
    let me = s.me.0 in
    let m = c.args.m.now in
    let slot = c.args.slot in
    let container = c.args.container in
    let fits : SFits w64 c.first_number-code.result = search rules in
    let same = to_z-of_z w64 c.first_number-code.result fits in
    sent_done t s (create_refused t me slot container (first_number m.payload)) (frame_duty_of t me (frame_in s) m kinds.CreateRefused slot container) c.args.out.now c.create_refused.new.out c.nothing.result c.requires.fits
    (c.in_ok-create_refused.ensures ∙ ap (λ (z : ℤ). c.args.out.now ++ create_refused t me slot container z) (same ∙ c.first_number-code.ensures))
    (number_fit (frame_in s) (is_answer t me slot container && (slot.generation.0 == 0)) m.payload (λ code. only_sends (frame_in s) (create_refused t me slot container code)) c.requires.form)
    c.nothing.ensures
