-- The wiring of one actor that is joined to nobody.
use Rattle.std.specs.Prelude.{ℕ, List, [], ◌∷◌, None, false, length, replicate, codes}
use Rattle.room_wiring.specs.declared.tables.Tables.{Tables}
use Rattle.room_wiring.specs.declared.tables.PlaceSpan.{PlaceSpan}
use Rattle.room_wiring.specs.declared.slot.Slot.{Slot}
use Rattle.room_kinds.specs.declared.structure.ReferenceKind.TheVariants.{Fixed}
use Rattle.room_wiring.specs.declared.slot.Partner.TheVariants.{Nobody}
use Rattle.room_wiring.specs.declared.names.ClassNames.{ClassNames}

-- one place, in the first row of the table of partners
abbrev pub one_place : PlaceSpan
one_place = record { first = 0; count = 1 }

-- the fixed slot at the top of the tree, of class 0 and run by controller 0
abbrev pub top_slot : List ℕ → Slot
top_slot path = record { path = path; class = 0; kind = Fixed; parent = None; owner = record { 0 = 0 }; reference = 0; index = 0 }

-- one slot, one controller, one class; each port has one place, and nothing is joined
abbrev pub single_tables : List ℕ → ClassNames → Tables
single_tables path class = record {
  slots = top_slot path ∷ [];
  controllers = codes "default" ∷ [];
  classes = class ∷ [];
  first_ports = 0 ∷ [];
  ports = replicate (length class.ports) one_place;
  partners = Nobody ∷ [];
  told = (false ∷ []) ∷ [];
}
