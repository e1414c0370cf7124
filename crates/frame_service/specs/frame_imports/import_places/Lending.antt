-- What the tables of import places and plugs say.
use Rattle.std.specs.Prelude.{ℕ, ◌&&◌, Bool, false, List, [], if◌then◌else◌}
use Rattle.std.specs.Option.{option_map_or}
use Rattle.room_kinds.specs.declared.numbers.Incarnation.{Incarnation}
use Rattle.room_wiring.specs.declared.tables.Tables.{Tables}
use Rattle.actor_duties.specs.Words.{updated, is_imported, is_part_of, container_of}
use Rattle.actor_duties.specs.State as rows
use Rattle.frame_lives.specs.Items.{item_in}
use Rattle.frame_service.specs.declared.frame_imports.import_places.place.ImportPlace.{ImportPlace}
use Rattle.frame_service.specs.declared.frame_imports.import_places.place.ImportPlace.TheVariants as variants
use Rattle.frame_service.specs.frame_imports.import_places.Places.{place_of}

-- the tables, in pages
pub record Kept : Type 0 where
  pub places : List (List ImportPlace)
  pub plugs : List (List (List Incarnation))

-- what each imported slot holds, and the plugs of each slot, oldest first
pub record Lending : Type 0 where
  pub places : ℕ → rows.ImportPlace
  pub plugs : ℕ → List Incarnation

-- what tables say
unfoldable pub lending : Kept → Lending
lending k = record {
  places = λ i. place_of (item_in variants.Empty k.places i);
  plugs = item_in [] k.plugs;
}

-- the same with other import places
abbrev pub with_places : Lending → (ℕ → rows.ImportPlace) → Lending
with_places l f = record l { places = f }

-- the same with other plugs
abbrev pub with_plugs : Lending → (ℕ → List Incarnation) → Lending
with_plugs l f = record l { plugs = f }

-- nothing is lent
abbrev pub nothing_lent : Lending
nothing_lent = record { places = λ i. rows.Empty; plugs = λ s. [] }

-- whether a slot is an imported one of a container
abbrev pub is_import_of : Tables → ℕ → ℕ → Bool
is_import_of t s i = is_imported t i && is_part_of t i s

-- a slot has no plugs any more, and its imported slots hold nothing
abbrev pub forgotten : Tables → ℕ → Lending → Lending
forgotten t s l = record {
  places = λ i. if is_import_of t s i then rows.Empty else l.places i;
  plugs = updated l.plugs s [];
}

-- the same of all slots that pass a test
abbrev pub forgotten_where : Tables → (ℕ → Bool) → Lending → Lending
forgotten_where t test l = record {
  places = λ i. if is_imported t i && option_map_or test (container_of t i) false then rows.Empty else l.places i;
  plugs = λ s. if test s then [] else l.plugs s;
}
