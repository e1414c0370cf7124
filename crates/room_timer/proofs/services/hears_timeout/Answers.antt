use Rattle.std.proofs.Common.{sym}
use Rattle.room_timer.proofs.Places.{port_there}
use Rattle.room_timer.proofs.services.hears_timeout.Goals as goal

-- src/services.rt:180:61
pub places-requires-clause-port : goal.places-requires-clause-port
places-requires-clause-port c =
    port_there c.args.wiring.now c.args.e.slot.0 c.args.e.port c.in-Some-port_of.port.now (sym c.in-Some-port_of.ensures)
