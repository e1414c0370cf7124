use Rattle.std.proofs.Common.{◌<◌, ℕ, sym, ◌∙◌, arith}
use Rattle.std.specs.List.{list_any}
use Rattle.room_wiring.specs.Places.{port_count}
use Rattle.actor_duties.specs.Words.{places_of}
use Rattle.actor_duties.specs.Imports.{is_taken_at, is_port_taken}
use Rattle.service_messages.proofs.slot_runs.Searched.{found_in}
use Rattle.frame_service.proofs.frame_imports.ports.is_port_taken.Goals as goal

pub returns-then-is_any_place_taken : goal.returns-then-is_any_place_taken
unfolding is_port_taken
returns-then-is_any_place_taken c =
    let t = c.args.wiring.now in
    let ports = port_count t c.args.import.slot.0 in
    let there : c.loop-number.number < ports = omega (arith, c.port_count-number-end.ensures) in
    sym (found_in (λ (p : ℕ). list_any (is_taken_at t c.args.plugs.now c.args.import c.args.home p) (places_of t c.args.import.slot.0 p)) ports c.loop-number.number there
    (sym c.is_any_place_taken.ensures ∙ c.if-is_any_place_taken.true))
