use Rattle.std.proofs.Common.{rules}
use Rattle.std.proofs.lemmas.List.Sorted.{answers_always}
use Rattle.actor_duties.specs.State.{Link}
use Rattle.layer_service.proofs.layer_links.ByPlace.{searched}
use Rattle.layer_service.proofs.layer_links.point.Point.search.Goals as goal

-- the closure gives a link's place
pub returns : goal.returns
returns c =
    let facts = c.binary_search_by_key.ensures in
    let by_place = facts.position (λ (x : Link). x.place) (answers_always _ _ _ (λ f a r g called. search rules)) in
    rw (← c.self.view_is, ← c.deref.ensures.value) (searched _ (rw c.deref.ensures.value c.self.invariant) c.args.place _ facts.bound by_place)
