use Rattle.std.proofs.Common.{◌≡◌, true, false, not, List, get_or, sym, subst, ap, ◌∙◌}
use Rattle.room_kinds.specs.declared.numbers.Endpoint.{Endpoint}
use Rattle.actor_duties.specs.State.{Link}
use Rattle.actor_duties.specs.Words.{is_endpoint}
use Rattle.actor_duties.specs.Links.{is_link}
use Rattle.layer_service.specs.layer_links.Kept.{PointState, registration_of}
use Rattle.layer_service.specs.layer_links.Rising.{AreRising, without_link, IsAt}
use Rattle.layer_service.proofs.layer_links.ByPlace.{taken, kept, nothing_taken, filter_rises}
use Rattle.layer_service.proofs.layer_links.point.Point.unlink.Goals as goal

-- the link is there, and is taken away
pub invariant_of-self : goal.invariant_of-self
invariant_of-self c =
    let links : List Link = c.self.inside.linked.items in
    let p = c.args.peer in
    let k = c.args.place in
    let i = c.in-Ok.index in
    let d : Link = c.index.result.now in
    let at : IsAt links k i = subst (λ (s : PointState). IsAt s.linked k i) (sym c.self.view_is) (rw c.from.ensures at c.in-Ok.ensures.found) in
    let there : is_endpoint (get_or links i d).peer p ≡ true =
    ap (λ (x : Link). is_endpoint x.peer p) (sym c.index.ensures) ∙ ap (λ (e : Endpoint). is_endpoint e p) (sym c.peer.ensures) ∙ sym c.is_same_endpoint.ensures ∙ c.if-is_same_endpoint.true in
    rw c.remove.ensures.items (subst AreRising (taken 0 p links k i d c.self.invariant at there) (filter_rises 0 (λ (x : Link). not (is_link p k x)) links c.self.invariant))

pub returns-then-is_same_endpoint : goal.returns-then-is_same_endpoint
returns-then-is_same_endpoint c =
    let links : List Link = c.self.inside.linked.items in
    let p = c.args.peer in
    let k = c.args.place in
    let i = c.in-Ok.index in
    let d : Link = c.index.result.now in
    let at : IsAt links k i = subst (λ (s : PointState). IsAt s.linked k i) (sym c.self.view_is) (rw c.from.ensures at c.in-Ok.ensures.found) in
    let there : is_endpoint (get_or links i d).peer p ≡ true =
    ap (λ (x : Link). is_endpoint x.peer p) (sym c.index.ensures) ∙ ap (λ (e : Endpoint). is_endpoint e p) (sym c.peer.ensures) ∙ sym c.is_same_endpoint.ensures ∙ c.if-is_same_endpoint.true in
    ap (λ (l : List Link). record { registration = registration_of c.self.inside.registration; linked = l })
    (c.remove.ensures.items ∙ sym (taken 0 p links k i d c.self.invariant at there))
    ∙ ap (λ (s : PointState). record { registration = s.registration; linked = without_link p k s.linked }) c.self.view_is

-- the place is linked to another one
pub returns-else-is_same_endpoint : goal.returns-else-is_same_endpoint
returns-else-is_same_endpoint c =
    let links : List Link = c.self.inside.linked.items in
    let p = c.args.peer in
    let k = c.args.place in
    let i = c.in-Ok.index in
    let d : Link = c.index.result.now in
    let s : PointState = c.args.self.now in
    let at : IsAt links k i = subst (λ (s : PointState). IsAt s.linked k i) (sym c.self.view_is) (rw c.from.ensures at c.in-Ok.ensures.found) in
    let there : is_endpoint (get_or links i d).peer p ≡ false =
    ap (λ (x : Link). is_endpoint x.peer p) (sym c.index.ensures) ∙ ap (λ (e : Endpoint). is_endpoint e p) (sym c.peer.ensures) ∙ sym c.is_same_endpoint.ensures ∙ c.if-is_same_endpoint.false in
    let same : without_link p k s.linked ≡ s.linked = subst (λ (s : PointState). without_link p k s.linked ≡ s.linked) c.self.view_is (kept 0 p links k i d c.self.invariant at there) in
    sym (ap (λ (l : List Link). record { registration = s.registration; linked = l }) same)

-- the place isn't linked
pub returns-in_default : goal.returns-in_default
returns-in_default c =
    let s : PointState = c.args.self.now in
    sym (ap (λ (l : List Link). record { registration = s.registration; linked = l }) (nothing_taken c.args.peer s.linked c.args.place c.in_default.field-0 (rw c.from.ensures at c.in_default.ensures.absent)))
