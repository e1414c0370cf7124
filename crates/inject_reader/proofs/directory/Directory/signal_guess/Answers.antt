use Rattle.std.proofs.Common.{◌≡◌, ◌-◌, arith}
use Rattle.room_wiring.specs.wiring_names.Lookup.{signal_called}
use Rattle.inject_reader.specs.Meaning.{first_coming}
use Rattle.inject_reader.proofs.PortLemmas.{signal_least}
use Rattle.inject_reader.proofs.directory.Directory.signal_guess.Goals as goal

pub returns : goal.returns
returns c =
    let is : c.saturating_sub.result ≡ signal_called c.self.inside.names c.args.s.0 c.args.port c.args.name.now - first_coming c.args.names.now = omega (arith, c.saturating_sub.ensures, c.from.ensures, c.signal.ensures, c.first_coming.ensures) in
    signal_least _ _ c.args.self.now c.args.s.0 c.args.port c.saturating_sub.result c.args.names.now c.args.name.now c.self.invariant c.self.view_is c.requires is
