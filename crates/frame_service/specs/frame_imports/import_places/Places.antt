-- The import places of the code, as the rows name them.
use Rattle.actor_duties.specs.State as rows
use Rattle.frame_service.specs.declared.frame_imports.import_places.place.ImportPlace.{ImportPlace}
use Rattle.frame_service.specs.declared.frame_imports.import_places.place.ImportPlace.TheVariants as variants

-- the import place of the rows
abbrev pub place_of : ImportPlace → rows.ImportPlace
place_of variants.Empty = rows.Empty
place_of (variants.Asking home) = rows.Asking home
place_of (variants.Held home) = rows.Held home
place_of (variants.Leaving home) = rows.Leaving home
