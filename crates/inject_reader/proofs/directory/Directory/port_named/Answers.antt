use Rattle.std.proofs.Common.{◌∙◌}
use Rattle.inject_reader.proofs.PortLemmas.{port_least}
use Rattle.inject_reader.proofs.directory.Directory.port_named.Goals as goal

pub port_place-requires : goal.port_place-requires
port_place-requires c =
    port_least _ _ c.args.self.now c.args.s.0 c.from-guess.result c.args.class.now c.args.name.now c.as_slice.result.now c.self.invariant c.self.view_is c.requires
    (c.from-guess.ensures ∙ c.port.ensures) c.as_slice.ensures
