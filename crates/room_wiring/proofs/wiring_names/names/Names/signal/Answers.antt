use Rattle.std.proofs.Common.{◌∙◌}
use Rattle.room_wiring.proofs.wiring_names.Found.{found_signal, no_signal}
use Rattle.room_wiring.proofs.wiring_names.names.Names.signal.Goals as goal

pub returns-in-Some : goal.returns-in-Some
returns-in-Some c = c.number_of.ensures ∙ found_signal c.args.self.now c.args.slot.0 c.args.port _ c.in-Some.signals.now c.in-Some.ensures

pub returns-in-None : goal.returns-in-None
returns-in-None c = no_signal c.args.self.now c.args.slot.0 c.args.port _ c.in-None.ensures
