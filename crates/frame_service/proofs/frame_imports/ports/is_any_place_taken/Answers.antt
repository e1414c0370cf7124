use Rattle.std.proofs.Common.{◌<◌, sym, ◌∙◌, arith}
use Rattle.room_wiring.specs.Places.{place_count}
use Rattle.actor_duties.specs.Imports.{is_taken_at}
use Rattle.service_messages.proofs.slot_runs.Searched.{found_in}
use Rattle.frame_service.proofs.frame_imports.ports.is_any_place_taken.Goals as goal

pub returns-then-is_taken_at : goal.returns-then-is_taken_at
returns-then-is_taken_at c =
    let places = place_count c.args.wiring.now c.args.import.slot.0 c.args.port in
    let there : c.loop-place.place < places = omega (arith, c.places-place-end.ensures) in
    sym (found_in (is_taken_at c.args.wiring.now c.args.plugs.now c.args.import c.args.home c.args.port) places c.loop-place.place there
    (sym c.is_taken_at.ensures ∙ c.if-is_taken_at.true))
