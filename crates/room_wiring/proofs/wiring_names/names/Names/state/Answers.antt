use Rattle.std.proofs.Common.{◌∙◌}
use Rattle.room_wiring.proofs.wiring_names.Found.{found_state, no_state}
use Rattle.room_wiring.proofs.wiring_names.names.Names.state.Goals as goal

pub returns-in-Some : goal.returns-in-Some
returns-in-Some c = c.number_of.ensures ∙ found_state c.args.self.now c.args.slot.0 _ c.in-Some.class.now c.in-Some.ensures

pub returns-in-None : goal.returns-in-None
returns-in-None c = no_state c.args.self.now c.args.slot.0 _ c.in-None.ensures
