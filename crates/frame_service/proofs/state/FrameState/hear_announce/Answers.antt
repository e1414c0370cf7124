use Rattle.std.proofs.Common.{ℕ, ℤ, ◌<◌, sym, subst, ap, ◌∙◌, SFits, w64, rules}
use Rattle.std.proofs.lemmas.Int.{to_z-of_z}
use Rattle.room_kinds.specs.declared.numbers.Incarnation.{Incarnation}
use Rattle.room_kinds.specs.declared.system.SysKind.TheVariants as kinds
use Rattle.actor_duties.specs.Words.{whose}
use Rattle.actor_duties.specs.Lives.{announce}
use Rattle.actor_duties.specs.Frame as duties
use Rattle.actor_duties.specs.Frame.{FrameDone, frame_duty_of, of_natural, is_announced}
use Rattle.frame_lives.specs.Shown.{shown, with_told}
use Rattle.frame_service.specs.State.{frame_in}
use Rattle.frame_service.proofs.FormLemmas.{announced_there, number_fit, silent_up}
use Rattle.frame_service.proofs.DutyLemmas.{told_done, nothing_done}
use Rattle.frame_service.proofs.state.FrameState.hear_announce.Goals as goal

pub hear-requires : goal.hear-requires
hear-requires c =
    let t = c.args.wiring.now in
    let s = c.args.self.now in
    let there = announced_there t c.slot_count-slots.ensures.consistent s.me.0 c.args.m.now.payload c.args.actor c.args.again c.requires.form in
    subst (λ (x : Incarnation). x.slot.0 < (shown s.lives).slots) (sym c.whose.ensures)
    (subst (λ (n : ℕ). c.args.actor.slot.0 < n) (sym c.requires.fits.lives) there)

pub returns-in_default : goal.returns-in_default
returns-in_default c =
    let t = c.args.wiring.now in
    let s = c.args.self.now in
    let me = s.me.0 in
    let m = c.args.m.now in
    let actor = c.args.actor in
    let again = c.args.again in
    let fits : SFits w64 c.first_number.result = search rules in
    let same = to_z-of_z w64 c.first_number.result fits in
    let said : ℤ → FrameDone = λ z. of_natural (frame_in s) z (λ up. duties.with_told (frame_in s) (announce (frame_in s).told (whose actor) up)) in
    nothing_done t s (frame_duty_of t me (frame_in s) m kinds.Announce actor again) c.args.out.now c.nothing.result c.requires.fits
    (number_fit (frame_in s) (is_announced t me actor again) m.payload said c.requires.form ∙ ap said (sym c.first_number.ensures)
    ∙ silent_up (frame_in s) (whose actor) c.first_number.result (λ e. c.in_default.ensures.0 (same ∙ e)) (λ e. c.in_default.ensures.1 (same ∙ e)))
    c.nothing.ensures

pub returns : goal.returns
unfolding frame_in
returns c =
    let t = c.args.wiring.now in
    let s = c.args.self.now in
    let me = s.me.0 in
    let m = c.args.m.now in
    let actor = c.args.actor in
    let again = c.args.again in
    let fits : SFits w64 c.first_number.result = search rules in
    let same = to_z-of_z w64 c.first_number.result fits in
    let said : ℤ → FrameDone = λ z. of_natural (frame_in s) z (λ up. duties.with_told (frame_in s) (announce (frame_in s).told (whose actor) up)) in
    told_done t s c.hear.new.self (announce (shown s.lives).told (whose actor) c.in-Some.up) (frame_duty_of t me (frame_in s) m kinds.Announce actor again) c.args.out.now c.nothing-2.result c.requires.fits
    (c.in_ok-hear.ensures
    ∙ ap (λ (x : Incarnation). with_told (shown s.lives) (announce (shown s.lives).told x c.from.result)) c.whose.ensures
    ∙ ap (λ (n : ℕ). with_told (shown s.lives) (announce (shown s.lives).told (whose actor) n)) c.from.ensures)
    (number_fit (frame_in s) (is_announced t me actor again) m.payload said c.requires.form ∙ ap said (sym c.first_number.ensures ∙ sym same ∙ c.in-Some.ensures))
    c.nothing-2.ensures
