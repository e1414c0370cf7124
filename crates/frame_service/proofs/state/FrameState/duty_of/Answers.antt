use Rattle.std.proofs.Common.{◌≡◌, false, List, ℤ, sym, subst, ◌∙◌}
use Rattle.actor_duties.specs.Frame.{frame_duty_of}
use Rattle.frame_service.specs.State.{frame_in}
use Rattle.frame_service.specs.Forms.{has_form}
use Rattle.frame_service.proofs.FormLemmas.{unformed}
use Rattle.frame_service.proofs.DutyLemmas.{nothing_done}
use Rattle.frame_service.proofs.state.FrameState.duty_of.Goals as goal

pub returns : goal.returns
returns c =
    let t = c.args.wiring.now in
    let s = c.args.self.now in
    let me = s.me.0 in
    let m = c.args.m.now in
    let kind = c.args.kind in
    let source = c.args.source in
    let other : has_form t me kind m.payload source m.target ≡ false =
    subst (λ (ns : List ℤ). has_form t me kind ns source m.target ≡ false) c.numbers-numbers.ensures.same (sym c.has_form.ensures ∙ c.if-has_form.false) in
    nothing_done t s (frame_duty_of t me (frame_in s) m kind source m.target) c.args.out.now c.nothing.result c.requires.fits
    (unformed t me (frame_in s) m kind source m.target other) c.nothing.ensures
