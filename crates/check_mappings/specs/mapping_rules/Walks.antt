-- Where a path of references leads.
use Rattle.std.specs.Prelude.{ℕ, ◌||◌, nat_lt, Bool, true, false, List, [], ◌∷◌, Option, Some, None, option_and_then, slice_get, if◌then◌else◌}
use Rattle.std.specs.Option.{option_map_or}
use Rattle.room_kinds.specs.declared.structure.ReferenceKind.{ReferenceKind}
use Rattle.room_kinds.specs.declared.structure.ReferenceKind.TheVariants as kinds
use Rattle.room_kinds.specs.Structure.{is_imported}
use Rattle.room_ast.specs.declared.system.MappingPath.{MappingPath}
use Rattle.room_ast.specs.declared.system.Segment.{Segment}
use Rattle.room_ast.specs.model_parts.Classes.{number_in}
use Rattle.room_ast.specs.model_parts.References.{count_of}
use Rattle.room_ast.specs.declared.model_parts.entries.ReferenceEntry.{ReferenceEntry}
use Rattle.check_tables.specs.declared.class_tables.container.Container.{Container}

-- Where a path has led: the class in which it can go on, if there is one; whether a reference before the last one is optional; and the kind of the last one, if there is one.
pub record Place : Type 0 where
  pub container : Option Container
  pub below_optional : Bool
  pub kind : Option ReferenceKind

-- The place at which paths begin, in a subsystem.
abbrev pub top : Container → Place
top subsystem = record { container = Some subsystem; below_optional = false; kind = None }

abbrev pub is_optional : ReferenceKind → Bool
is_optional kinds.Fixed = false
is_optional kinds.Optional = true
is_optional kinds.Imported = false

-- The reference of a name in a class.
abbrev pub reference_named : Container → List ℕ → Option ReferenceEntry
reference_named c name = option_and_then (slice_get c.references) (number_in c.reference_names name)

-- Whether an index is one of the reference's; where none is written, all are meant.
abbrev pub index_fits : ReferenceEntry → Option ℕ → Bool
index_fits r None = true
index_fits r (Some i) = nat_lt i (count_of r)

-- The class in which a path goes on behind a reference. An imported reference has no inside. The first argument is what the actor classes know, by number.
abbrev pub inside : List Container → ReferenceEntry → Option Container
inside classes r = if is_imported r.kind then None else option_and_then (slice_get classes) r.class

abbrev pub behind : List Container → Place → ReferenceEntry → Place
behind classes p r = record { container = inside classes r; below_optional = p.below_optional || option_map_or is_optional p.kind false; kind = Some r.kind }

abbrev pub behind_if : List Container → Place → Option ℕ → ReferenceEntry → Option Place
behind_if classes p index r = if index_fits r index then Some (behind classes p r) else None

-- One segment further, if there is such a reference and index.
unfoldable pub step : List Container → Place → Segment → Option Place
step classes p s = option_and_then (λ (c : Container). option_and_then (behind_if classes p s.index) (reference_named c s.name)) p.container

-- So many segments further.
abbrev pub walk : List Container → Place → List Segment → Option Place
walk classes p [] = Some p
walk classes p (s ∷ ss) = option_and_then (λ (q : Place). walk classes q ss) (step classes p s)

-- Where a mapping's path leads, if it exists.
unfoldable pub path_end : List Container → Place → MappingPath → Option Place
path_end classes p path = walk classes p (path.first ∷ path.others)
