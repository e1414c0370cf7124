use Rattle.std.proofs.Common.{◌≡◌, ◌<◌, ◌≤◌, true, false, arith}
use Rattle.std.proofs.lemmas.Grind.{common_steps}
use Rattle.room_wiring.specs.Places.{port_count}
use Rattle.actor_duties.specs.Words.{is_spp}
use Rattle.controller_actors.specs.actor_commands.command_sends.Adding.{content_of}
use Rattle.controller_actors.proofs.actor_commands.command_sends.Broadcasting.{broadcast_none, broadcast_alone, broadcast_linked, OnOk-from}
use Rattle.controller_actors.proofs.actor_commands.command_sends.broadcasts.broadcast.Goals as goal

pub returns-then-from-port_count : goal.returns-then-from-port_count
returns-then-from-port_count g c =
    let s = c.args.speaker.now in
    let past : port_count s.wiring.now s.who.slot.0 ≤ c.args.port = omega arith in
    broadcast_none s.wiring.now s.me.0 (g.S.Services.frame_of c.args.services.now) (g.S.Services.links_of c.args.services.now) s.who c.args.port (content_of c.args.content.now)
    c.args.output.now past

pub returns-then-not-is_spp : goal.returns-then-not-is_spp
returns-then-not-is_spp g c =
    let s = c.args.speaker.now in
    let there : c.args.port < port_count s.wiring.now s.who.slot.0 = omega arith in
    let none : is_spp s.wiring.now s.who.slot.0 c.args.port ≡ false = grind (arith, common_steps, c.if-not-is_spp.true, c.is_spp.ensures) in
    broadcast_alone s.wiring.now s.me.0 (g.S.Services.frame_of c.args.services.now) (g.S.Services.links_of c.args.services.now) s.who c.args.port (content_of c.args.content.now)
    c.args.output.now c.send_to_places.new.output there none c.in_ok-send_to_places.ensures

pub returns : goal.returns
returns g c =
    let s = c.args.speaker.now in
    let there : c.args.port < port_count s.wiring.now s.who.slot.0 = omega arith in
    let some : is_spp s.wiring.now s.who.slot.0 c.args.port ≡ true = grind (arith, common_steps, c.if-not-is_spp.false, c.is_spp.ensures) in
    OnOk-from c.send_to_links.result
    (broadcast_linked s.wiring.now s.me.0 (g.S.Services.frame_of c.args.services.now) (g.S.Services.links_of c.args.services.now) s.who c.args.port (content_of c.args.content.now)
    c.places-first.result c.args.output.now c.send_to_places.new.output c.send_to_links.new.output there some c.places-first.ensures c.in_ok-send_to_places.ensures)
    c.send_to_links.ensures
