use Rattle.std.proofs.Common.{drop}
use Rattle.room_outside.specs.line_text.Output.{at_rest}
use Rattle.room_show.specs.Text.{controllers_text}
use Rattle.room_outside.proofs.line_text.Going.{Going}
use Rattle.room_show.proofs.text.write_controllers.Given as goal

abbrev pub invariant-loop-c : goal.invariant-loop-c
invariant-loop-c g l =
    Going (at_rest (g.K.Sink.written l.initial.sink) l.initial.out) (at_rest (g.K.Sink.written l.sink) l.out)
    (controllers_text l.wiring 0 l.views) (controllers_text l.wiring l.c (drop l.c l.views))
