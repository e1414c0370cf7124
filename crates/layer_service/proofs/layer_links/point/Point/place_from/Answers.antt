use Rattle.std.proofs.Common.{◌≡◌, List, sym, subst}
use Rattle.std.specs.Prelude.{slice_get}
use Rattle.actor_duties.specs.State.{Link}
use Rattle.layer_service.specs.layer_links.Kept.{PointState}
use Rattle.layer_service.specs.layer_links.Rising.{IsAt, first_from}
use Rattle.layer_service.proofs.layer_links.ByPlace.{first_found, first_in_gap}
use Rattle.layer_service.proofs.layer_links.point.Point.place_from.Goals as goal

pub returns-in-Ok : goal.returns-in-Ok
returns-in-Ok c =
    let links : List Link = c.self.inside.linked.items in
    let k = c.args.place in
    let i = c.in-Ok.index in
    let at : IsAt links k i = subst (λ (s : PointState). IsAt s.linked k i) (sym c.self.view_is) c.in-Ok.ensures.found in
    subst (λ (s : PointState). first_from k s.linked ≡ slice_get s.linked i) c.self.view_is (first_found links k i c.self.invariant at)

pub returns-in-Err : goal.returns-in-Err
returns-in-Err c = first_in_gap c.args.self.now.linked c.args.place c.in-Err.index c.in-Err.ensures.absent
