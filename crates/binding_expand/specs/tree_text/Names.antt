-- What the text calls classes, the kinds of slots, ports and places.
use Rattle.std.specs.Prelude.{ℕ, List, [], ◌∷◌, codes, decimal}
use Rattle.std.specs.Option.{option_map_or}
use Rattle.room_kinds.specs.declared.structure.ReferenceKind.{ReferenceKind}
use Rattle.room_kinds.specs.declared.structure.ReferenceKind.TheVariants as references
use Rattle.room_wiring.specs.declared.tables.Tables.{Tables}
use Rattle.room_wiring.specs.declared.names.ClassNames.{ClassNames}
use Rattle.room_wiring.specs.Slots.{class_at, path_text, port_text}
use Rattle.binding_expand.specs.declared.tree_text.place.Place.{Place}

-- the name of a class
unfoldable pub class_text : Tables → ℕ → List ℕ
class_text t c = option_map_or (λ (k : ClassNames). k.name) (class_at t c) []

-- the word for the kind of a slot
abbrev pub kind_text : ReferenceKind → List ℕ
kind_text references.Fixed = codes "fixed"
kind_text references.Optional = codes "optional"
kind_text references.Imported = codes "imported"

-- `.<port>[<place>]`
abbrev pub port_parts : Tables → Place → List (List ℕ)
port_parts t e = codes "." ∷ port_text t e.slot.0 e.port ∷ codes "[" ∷ decimal e.place ∷ codes "]" ∷ []

-- `<path>.<port>[<place>]`
abbrev pub place_parts : Tables → Place → List (List ℕ)
place_parts t e = path_text t e.slot.0 ∷ port_parts t e
