-- Where in the name table a service stands.
use Rattle.std.specs.Prelude.{◌≡◌, ℕ, ◌<◌, length, slice_get, slice_set, Some}
use Rattle.actor_duties.specs.State.{Service, NameTable, Done}
use Rattle.actor_duties.specs.Names.{in_service}
use Rattle.layer_service.specs.name_service.Services.{service_called}

-- a table with the service of a name and protocol at a place: a step of the service in the old table
-- is a step at that place
pub record StandsAt (name protocol : ℕ) (old new : NameTable) (i : ℕ) : Type 0 where
  pub within : i < length new
  pub service : slice_get new i ≡ Some (service_called name protocol old)
  pub steps :
      (step : Service → Done Service)
      → in_service name protocol step old
      ≡ record { now = slice_set new i (step (service_called name protocol old)).now; sent = (step (service_called name protocol old)).sent }
