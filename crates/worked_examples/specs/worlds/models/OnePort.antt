-- One actor with one port, to which the environment posts.
use Rattle.std.specs.Prelude.{[], ◌∷◌, Some, None}
use Rattle.room_wiring.specs.declared.tables.Tables.{Tables}
use Rattle.room_kinds.specs.declared.structure.ReferenceKind.TheVariants.{Fixed}
use Rattle.room_wiring.specs.declared.slot.Partner.TheVariants.{Nobody}
use Rattle.room_kinds.specs.declared.structure.PortKind.TheVariants as ports
use Rattle.worked_examples.specs.worlds.Writing.{slot, class, port, single_places, told_nobody}

-- the wiring of the model
abbrev pub tables : Tables
tables = record {
  slots = slot 0 Fixed None 0 0 0 ∷ [];
  controllers = [] ∷ [];
  classes = class (port ports.Frame None ∷ port ports.Internal (Some 0) ∷ []) ∷ [];
  first_ports = 0 ∷ [];
  ports = single_places 2;
  partners = Nobody ∷ Nobody ∷ [];
  told = told_nobody 1 1;
}
