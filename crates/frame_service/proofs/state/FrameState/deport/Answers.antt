use Rattle.actor_duties.specs.Frame.{deport_command}
use Rattle.frame_service.specs.frame_imports.import_places.Lending.{lending}
use Rattle.frame_service.specs.State.{frame_in}
use Rattle.frame_service.proofs.DutyLemmas.{places_requested}
use Rattle.frame_service.proofs.state.FrameState.deport.Goals as goal

pub request_deport-requires : goal.request_deport-requires
request_deport-requires c = record { site = record { order = c.requires.fits.order; runs = c.requires.fits.runs }; there = c.requires.there }

pub returns : goal.returns
unfolding frame_in
returns c =
    let t = c.args.wiring.now in
    let s = c.args.self.now in
    places_requested t s c.request_deport.new.imports (deport_command t s.me.0 (lending s.imports).places c.args.asked.actor c.args.asked.reference c.args.asked.index) c.args.out.now c.request_deport.new.out c.requires.fits
    c.in_ok-request_deport.ensures.now c.in_ok-request_deport.ensures.sent
