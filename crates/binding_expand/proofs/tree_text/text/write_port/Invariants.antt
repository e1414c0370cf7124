use Rattle.std.proofs.Common.{◌-◌}
use Rattle.room_outside.specs.line_text.Output.{at_rest}
use Rattle.room_outside.proofs.line_text.Going.{Going}
use Rattle.room_wiring.specs.Places.{place_count}
use Rattle.binding_expand.specs.tree_text.Walk.{texts_from}
use Rattle.binding_expand.specs.tree_text.Text.{place_text}
use Rattle.binding_expand.proofs.tree_text.text.write_port.Given as goal

abbrev pub invariant-loop-place : goal.invariant-loop-place
invariant-loop-place g l =
    Going (at_rest (g.K.Sink.written l.initial.sink) l.initial.out) (at_rest (g.K.Sink.written l.sink) l.out)
    (texts_from (place_text l.wiring l.tie l.slot.0 l.port) 0 (place_count l.wiring l.slot.0 l.port)) (texts_from (place_text l.wiring l.tie l.slot.0 l.port) l.place ((place_count l.wiring l.slot.0 l.port) - l.place))
