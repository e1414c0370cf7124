use Rattle.std.proofs.Common.{ℤ, sym, ap, ◌∙◌, SFits, w64, rules}
use Rattle.std.proofs.lemmas.Int.{to_z-of_z}
use Rattle.room_kinds.specs.declared.system.SysKind.TheVariants as kinds
use Rattle.actor_duties.specs.Lives.{destroy_done}
use Rattle.actor_duties.specs.Frame.{FrameDone, frame_duty_of, of_natural, only_sends, is_answer}
use Rattle.frame_service.specs.State.{frame_in}
use Rattle.frame_service.proofs.FormLemmas.{number_fit, silent_code}
use Rattle.frame_service.proofs.DutyLemmas.{nothing_done, sent_done}
use Rattle.frame_service.proofs.state.FrameState.hear_destroy_done.Goals as goal

pub returns-in_default : goal.returns-in_default
returns-in_default c =
    let t = c.args.wiring.now in
    let s = c.args.self.now in
    let me = s.me.0 in
    let m = c.args.m.now in
    let gone = c.args.gone in
    let container = c.args.container in
    let fits : SFits w64 c.first_number.result = search rules in
    let same = to_z-of_z w64 c.first_number.result fits in
    let said : ℤ → FrameDone = λ z. of_natural (frame_in s) z (λ code. only_sends (frame_in s) (destroy_done t me gone container code)) in
    nothing_done t s (frame_duty_of t me (frame_in s) m kinds.DestroyDone gone container) c.args.out.now c.nothing.result c.requires.fits
    (number_fit (frame_in s) (is_answer t me gone container) m.payload said c.requires.form ∙ ap said (sym c.first_number.ensures)
    ∙ silent_code t me (frame_in s) gone container c.first_number.result (λ e. c.in_default.ensures.0 (same ∙ e)) (λ e. c.in_default.ensures.1 (same ∙ e)))
    c.nothing.ensures

pub returns : goal.returns
returns c =
    let t = c.args.wiring.now in
    let s = c.args.self.now in
    let me = s.me.0 in
    let m = c.args.m.now in
    let gone = c.args.gone in
    let container = c.args.container in
    let fits : SFits w64 c.first_number.result = search rules in
    let same = to_z-of_z w64 c.first_number.result fits in
    let said : ℤ → FrameDone = λ z. of_natural (frame_in s) z (λ code. only_sends (frame_in s) (destroy_done t me gone container code)) in
    sent_done t s (destroy_done t me gone container c.in-Some.code) (frame_duty_of t me (frame_in s) m kinds.DestroyDone gone container) c.args.out.now c.destroy_done.new.out c.nothing-2.result c.requires.fits
    c.in_ok-destroy_done.ensures
    (number_fit (frame_in s) (is_answer t me gone container) m.payload said c.requires.form ∙ ap said (sym c.first_number.ensures ∙ sym same ∙ c.in-Some.ensures))
    c.nothing-2.ensures
