-- Classes whose ports are well named.
use Rattle.std.specs.Prelude.{All}
use Rattle.room_wiring.specs.WellNamed.{NamesDiffer, IsWellNamedPort}
use Rattle.room_wiring.specs.declared.names.ClassNames.{ClassNames}
use Rattle.room_wiring.specs.declared.names.PortNames.{PortNames}

-- The ports of a class have different names, and each port has messages with different names; all are identifiers.
pub record HasWellNamedPorts (c : ClassNames) : Type 0 where
  pub ports : All IsWellNamedPort c.ports
  pub differ : NamesDiffer (λ (x : PortNames). x.name) c.ports
