use Rattle.std.proofs.Common.{drop}
use Rattle.std.specs.List.{flat_map}
use Rattle.room_outside.specs.line_text.Output.{at_rest}
use Rattle.room_show.specs.Text.{actor_text}
use Rattle.room_outside.proofs.line_text.Going.{Going}
use Rattle.room_show.proofs.text.write_actors.Given as goal

abbrev pub invariant-loop-actor : goal.invariant-loop-actor
invariant-loop-actor g l =
    Going (at_rest (g.K.Sink.written l.initial.sink) l.initial.out) (at_rest (g.K.Sink.written l.sink) l.out)
    (flat_map (actor_text l.wiring) l.actors) (flat_map (actor_text l.wiring) (drop l.actor-index l.actors))
