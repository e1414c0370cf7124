use Rattle.std.proofs.Common.{refl}
use Rattle.frame_service.proofs.frame_imports.import_places.Written.{place_written}
use Rattle.frame_service.proofs.frame_imports.import_places.table.Imports.set_place.Goals as goal

pub returns : goal.returns
returns c =
    place_written c.args.self.now c.self.inside.places (c.reach.follows.lender c.args.place) c.self.inside.plugs c.args.slot.0 c.from.result c.args.place
    c.self.view_is c.from.ensures (c.reach.follows.holds c.args.place (rw c.in_ok-held.was refl))
