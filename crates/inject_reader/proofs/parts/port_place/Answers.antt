use Rattle.std.proofs.Common.{sym, ◌∙◌}
use Rattle.name_tables.specs.name_numbers.Names.{same}
use Rattle.room_wiring.specs.declared.names.PortNames.{PortNames}
use Rattle.inject_reader.proofs.GuessLemmas.{guess_right}
use Rattle.inject_reader.proofs.parts.port_place.Goals as goal

pub returns-then-has_port : goal.returns-then-has_port
returns-then-has_port c =
    sym (guess_right (λ (x : PortNames). same x.name c.args.name.now) c.args.ports.now c.args.guess c.requires (sym c.has_port.ensures ∙ c.if-has_port.true))
