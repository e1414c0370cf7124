use Rattle.std.proofs.Common.{drop}
use Rattle.std.specs.List.{flat_map}
use Rattle.room_outside.specs.line_text.Output.{at_rest}
use Rattle.room_show.specs.Lines.{deferred_line}
use Rattle.room_outside.proofs.line_text.Going.{Going}
use Rattle.room_show.proofs.text.write_deferred.Given as goal

abbrev pub invariant-loop-msg : goal.invariant-loop-msg
invariant-loop-msg g l =
    Going (at_rest (g.K.Sink.written l.initial.sink) l.initial.out) (at_rest (g.K.Sink.written l.sink) l.out)
    (flat_map (deferred_line l.wiring) l.messages) (flat_map (deferred_line l.wiring) (drop l.msg-index l.messages))
