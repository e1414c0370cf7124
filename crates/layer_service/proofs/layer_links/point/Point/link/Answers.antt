use Rattle.std.proofs.Common.{List, sym, subst, ap, ◌∙◌, arith}
use Rattle.actor_duties.specs.State.{Link}
use Rattle.actor_duties.specs.Links.{with_link}
use Rattle.layer_service.specs.layer_links.Kept.{PointState, registration_of}
use Rattle.layer_service.specs.layer_links.Rising.{AreRising, IsAt, IsGapFor}
use Rattle.layer_service.proofs.layer_links.ByPlace.{replaced, added, put_rises}
use Rattle.layer_service.proofs.layer_links.point.Point.link.Goals as goal

-- the place was linked, and the new link stands where the old one stood
pub invariant_of-self : goal.invariant_of-self
invariant_of-self c =
    let links : List Link = c.self.inside.linked.items in
    let y : Link = record { place = c.args.place; peer = c.args.peer } in
    let at : IsAt links c.args.place c.in-Ok.index = subst (λ (s : PointState). IsAt s.linked c.args.place c.in-Ok.index) (sym c.self.view_is) (rw c.from.ensures at c.in-Ok.ensures.found) in
    rw c.new-link.ensures (subst AreRising (replaced 0 y links c.in-Ok.index c.self.invariant at) (put_rises 0 y links (omega arith) c.ranges.place.fits c.self.invariant))

pub returns-in-Ok : goal.returns-in-Ok
returns-in-Ok c =
    let links : List Link = c.self.inside.linked.items in
    let y : Link = record { place = c.args.place; peer = c.args.peer } in
    let at : IsAt links c.args.place c.in-Ok.index = subst (λ (s : PointState). IsAt s.linked c.args.place c.in-Ok.index) (sym c.self.view_is) (rw c.from.ensures at c.in-Ok.ensures.found) in
    rw c.new-link.ensures
    (ap (λ (l : List Link). record { registration = registration_of c.self.inside.registration; linked = l }) (sym (replaced 0 y links c.in-Ok.index c.self.invariant at))
    ∙ ap (λ (s : PointState). record { registration = s.registration; linked = with_link y s.linked }) c.self.view_is)

-- it wasn't, and the new link goes into the gap
pub invariant_of-self-in-Err : goal.invariant_of-self-in-Err
invariant_of-self-in-Err c =
    let links : List Link = c.self.inside.linked.items in
    let y : Link = record { place = c.args.place; peer = c.args.peer } in
    let gap : IsGapFor links c.args.place c.in-Err.index = subst (λ (s : PointState). IsGapFor s.linked c.args.place c.in-Err.index) (sym c.self.view_is) (rw c.from.ensures at c.in-Err.ensures.absent) in
    rw (c.in_ok-insert-in-Err.ensures.items, c.new-link.ensures) (subst AreRising (added y links c.in-Err.index gap) (put_rises 0 y links (omega arith) c.ranges.place.fits c.self.invariant))

pub returns-in_ok-insert-in-Err : goal.returns-in_ok-insert-in-Err
returns-in_ok-insert-in-Err c =
    let links : List Link = c.self.inside.linked.items in
    let y : Link = record { place = c.args.place; peer = c.args.peer } in
    let gap : IsGapFor links c.args.place c.in-Err.index = subst (λ (s : PointState). IsGapFor s.linked c.args.place c.in-Err.index) (sym c.self.view_is) (rw c.from.ensures at c.in-Err.ensures.absent) in
    rw (c.in_ok-insert-in-Err.ensures.items, c.new-link.ensures)
    (ap (λ (l : List Link). record { registration = registration_of c.self.inside.registration; linked = l }) (sym (added y links c.in-Err.index gap))
    ∙ ap (λ (s : PointState). record { registration = s.registration; linked = with_link y s.linked }) c.self.view_is)
