-- An actor with another one in it, which it imports into two places.
use Rattle.std.specs.Prelude.{[], ◌∷◌, Some, None}
use Rattle.room_wiring.specs.declared.tables.Tables.{Tables}
use Rattle.room_kinds.specs.declared.structure.ReferenceKind.{ReferenceKind as Kind}
use Rattle.room_kinds.specs.declared.structure.ReferenceKind.TheVariants.{Fixed, Imported}
use Rattle.room_wiring.specs.declared.slot.Partner.TheVariants.{Nobody, End, Socket}
use Rattle.room_kinds.specs.declared.structure.PortKind.TheVariants as ports
use Rattle.worked_examples.specs.worlds.Writing.{slot, class, port, single_places, told_nobody}

-- the wiring of the model, with the kind of the reference to the actor that is imported
abbrev pub tables : Kind → Tables
tables kind = record {
  slots =
      slot 1 Fixed None 0 0 0
      ∷ slot 0 kind (Some (record { 0 = 0 })) 0 0 0
      ∷ slot 0 Imported (Some (record { 0 = 0 })) 0 1 0
      ∷ slot 0 Imported (Some (record { 0 = 0 })) 0 1 1
      ∷ [];
  controllers = [] ∷ [];
  classes =
      class (port ports.Frame None ∷ port ports.End (Some 0) ∷ [])
      ∷ class (port ports.Frame None ∷ port ports.Internal (Some 0) ∷ port ports.Internal (Some 0) ∷ port ports.Internal (Some 0) ∷ [])
      ∷ [];
  first_ports = 0 ∷ 4 ∷ 6 ∷ 8 ∷ [];
  ports = single_places 10;
  partners =
      Nobody
      ∷ Nobody
      ∷ Socket (record { 0 = 2 }) 1 0
      ∷ Socket (record { 0 = 3 }) 1 0
      ∷ Nobody
      ∷ Nobody
      ∷ Nobody
      ∷ End (record { 0 = 0 }) 2 0
      ∷ Nobody
      ∷ End (record { 0 = 0 }) 3 0
      ∷ [];
  told = told_nobody 4 1;
}
