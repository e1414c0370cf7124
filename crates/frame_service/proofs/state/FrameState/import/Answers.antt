use Rattle.std.proofs.Common.{ℤ, SFits, w64, rules, ap, ◌∙◌, ◌++◌}
use Rattle.std.proofs.lemmas.Int.{to_z-of_z}
use Rattle.actor_duties.specs.Frame.{import_command}
use Rattle.frame_service.specs.frame_imports.import_places.Lending.{lending, with_places}
use Rattle.frame_service.specs.State.{frame_in}
use Rattle.frame_service.proofs.DutyLemmas.{places_requested}
use Rattle.frame_service.proofs.state.FrameState.import.Goals as goal

pub request_import-requires : goal.request_import-requires
request_import-requires c = record { site = record { order = c.requires.fits.order; runs = c.requires.fits.runs }; there = c.requires.there }

pub returns : goal.returns
unfolding frame_in
returns c =
    let t = c.args.wiring.now in
    let s = c.args.self.now in
    let fits : SFits w64 c.args.id = search rules in
    let same = to_z-of_z w64 c.args.id fits in
    places_requested t s c.request_import.new.imports (import_command t s.me.0 (lending s.imports).places c.args.asked.actor c.args.asked.reference c.args.asked.index c.args.id) c.args.out.now c.request_import.new.out c.requires.fits
    (c.in_ok-request_import.ensures.now ∙ ap (λ (z : ℤ). with_places (lending s.imports) (import_command t s.me.0 (lending s.imports).places c.args.asked.actor c.args.asked.reference c.args.asked.index z).now) same)
    (c.in_ok-request_import.ensures.sent ∙ ap (λ (z : ℤ). c.args.out.now ++ (import_command t s.me.0 (lending s.imports).places c.args.asked.actor c.args.asked.reference c.args.asked.index z).sent) same)
