use Rattle.std.proofs.Common.{◌≡◌, ◌++◌, drop}
use Rattle.std.specs.List.{flat_map}
use Rattle.frame_service.specs.frame_endings.Ends.{end_sends}
use Rattle.frame_service.proofs.frame_endings.messages.end_actors.Given as goal

abbrev pub invariant-loop-actor : goal.invariant-loop-actor
invariant-loop-actor g l =
    l.initial.out ++ flat_map (end_sends l.site.wiring.now l.site.me.0 (g.I.Lent.places l.lent) (g.I.Lent.plugs l.lent)) l.actors
    ≡ l.out ++ flat_map (end_sends l.site.wiring.now l.site.me.0 (g.I.Lent.places l.lent) (g.I.Lent.plugs l.lent)) (drop l.actor-index l.actors)
