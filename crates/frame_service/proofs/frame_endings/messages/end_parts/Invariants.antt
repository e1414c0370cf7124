use Rattle.std.proofs.Common.{◌≡◌, ◌++◌, drop}
use Rattle.std.specs.List.{flat_map}
use Rattle.frame_service.specs.frame_endings.Ends.{part_sends}
use Rattle.frame_service.proofs.frame_endings.messages.end_parts.Given as goal

abbrev pub invariant-loop-actor : goal.invariant-loop-actor
invariant-loop-actor l =
    l.initial.out ++ flat_map (part_sends l.site.wiring.now l.site.me.0) l.actors
    ≡ l.out ++ flat_map (part_sends l.site.wiring.now l.site.me.0) (drop l.actor-index l.actors)
