use Rattle.std.proofs.Common.{drop}
use Rattle.std.specs.List.{flat_map}
use Rattle.room_outside.specs.line_text.Output.{at_rest}
use Rattle.room_show.specs.Lines.{place_line}
use Rattle.room_outside.proofs.line_text.Going.{Going}
use Rattle.room_show.proofs.text.write_places.Given as goal

abbrev pub invariant-loop-place : goal.invariant-loop-place
invariant-loop-place g l =
    Going (at_rest (g.K.Sink.written l.initial.sink) l.initial.out) (at_rest (g.K.Sink.written l.sink) l.out)
    (flat_map (place_line l.wiring) l.places) (flat_map (place_line l.wiring) (drop l.place-index l.places))
