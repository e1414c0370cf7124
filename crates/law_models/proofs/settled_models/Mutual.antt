-- What peers ask of the wiring of a model that keeps all rules and has no fault.
use Rattle.law_models.specs.settled_models.Wirings.{ModelsAreMutual}
use Rattle.law_models.proofs.settled_models.Joins.{ends_mutual, sockets_mutual, socket_imported, socket_local, ends_tell, sockets_tell}
use Rattle.law_models.proofs.settled_models.Owners.{owners_there, places_contained}
use Rattle.law_models.proofs.settled_models.Ports.{service_free}

pub model_mutual : ModelsAreMutual
model_mutual m t keeps w flawless = record {
  ends = ends_mutual m t keeps w flawless;
  sockets = sockets_mutual m t keeps w flawless;
  imported = socket_imported m t keeps w flawless;
  local = socket_local m t keeps w flawless;
  ends_told = ends_tell m t keeps w flawless (owners_there m t keeps w flawless);
  sockets_told = sockets_tell m t keeps w flawless;
  contained = places_contained m keeps t w.slots;
  ports = service_free m t keeps w flawless;
}
