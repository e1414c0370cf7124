use Rattle.inject_reader.proofs.PortLemmas.{class_inside, port_inside}
use Rattle.inject_reader.proofs.directory.Directory.places.Goals as goal

pub places-requires-clause-slot : goal.places-requires-clause-slot
places-requires-clause-slot c = class_inside _ c.args.self.now c.args.s.0 c.args.class.now c.self.view_is c.requires.class

pub places-requires-clause-port : goal.places-requires-clause-port
places-requires-clause-port c = port_inside _ c.args.self.now c.args.s.0 c.args.port c.args.class.now c.self.view_is c.requires.class c.requires.port
