use Rattle.std.proofs.Common.{ℤ, SFits, w64, rules, ap, ◌∙◌, ◌++◌}
use Rattle.std.proofs.lemmas.Int.{to_z-of_z}
use Rattle.room_kinds.specs.declared.system.SysKind.TheVariants as kinds
use Rattle.actor_duties.specs.Imports.{import_refused}
use Rattle.actor_duties.specs.Frame as duties
use Rattle.actor_duties.specs.Frame.{frame_duty_of, is_back}
use Rattle.frame_lives.specs.Shown.{shown}
use Rattle.frame_service.specs.frame_imports.import_places.Lending.{lending, with_places}
use Rattle.frame_service.specs.State.{frame_in}
use Rattle.frame_service.specs.Forms.{first_number}
use Rattle.frame_service.proofs.FormLemmas.{number_fit}
use Rattle.frame_service.proofs.DutyLemmas.{places_done}
use Rattle.frame_service.proofs.state.FrameState.hear_import_refused.Goals as goal

pub returns : goal.returns
unfolding frame_in import_refused
returns c =
    let t = c.args.wiring.now in
    let s = c.args.self.now in
    let me = s.me.0 in
    let m = c.args.m.now in
    let place = c.args.place in
    let home = c.args.home in
    let fits : SFits w64 c.first_number-code.result = search rules in
    let same = to_z-of_z w64 c.first_number-code.result fits in
    let code_is = same ∙ c.first_number-code.ensures in
    places_done t s c.hear.new.imports (import_refused t me (shown s.lives).lives (lending s.imports).places home place (first_number m.payload)) (frame_duty_of t me (frame_in s) m kinds.ImportRefused home place) c.args.out.now c.hear.new.out c.nothing.result c.requires.fits
    (c.in_ok-hear.ensures.now ∙ ap (λ (z : ℤ). with_places (lending s.imports) (import_refused t me (shown s.lives).lives (lending s.imports).places home place z).now) code_is)
    (c.in_ok-hear.ensures.sent ∙ ap (λ (z : ℤ). c.args.out.now ++ (import_refused t me (shown s.lives).lives (lending s.imports).places home place z).sent) code_is)
    (number_fit (frame_in s) (is_back t me home place) m.payload (λ code. duties.with_places (frame_in s) (import_refused t me (shown s.lives).lives (lending s.imports).places home place code)) c.requires.form)
    c.nothing.ensures
