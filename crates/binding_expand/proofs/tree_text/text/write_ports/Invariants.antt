use Rattle.std.proofs.Common.{◌-◌}
use Rattle.room_outside.specs.line_text.Output.{at_rest}
use Rattle.room_outside.proofs.line_text.Going.{Going}
use Rattle.binding_expand.specs.tree_text.Walk.{texts_from}
use Rattle.binding_expand.specs.tree_text.Text.{port_ties, ports_told}
use Rattle.binding_expand.proofs.tree_text.text.write_ports.Given as goal

abbrev pub invariant-loop-port : goal.invariant-loop-port
invariant-loop-port g l =
    Going (at_rest (g.K.Sink.written l.initial.sink) l.initial.out) (at_rest (g.K.Sink.written l.sink) l.out)
    (texts_from (port_ties l.wiring l.tie l.s.0) 0 (ports_told l.wiring l.s.0)) (texts_from (port_ties l.wiring l.tie l.s.0) l.port ((ports_told l.wiring l.s.0) - l.port))
