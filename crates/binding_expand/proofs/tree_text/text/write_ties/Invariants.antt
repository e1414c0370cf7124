use Rattle.std.proofs.Common.{◌-◌, length}
use Rattle.room_outside.specs.line_text.Output.{at_rest}
use Rattle.room_outside.proofs.line_text.Going.{Going}
use Rattle.binding_expand.specs.tree_text.Walk.{texts_from}
use Rattle.binding_expand.specs.tree_text.Text.{slot_ties}
use Rattle.binding_expand.proofs.tree_text.text.write_ties.Given as goal

abbrev pub invariant-loop-s : goal.invariant-loop-s
invariant-loop-s g l =
    Going (at_rest (g.K.Sink.written l.initial.sink) l.initial.out) (at_rest (g.K.Sink.written l.sink) l.out)
    (texts_from (slot_ties l.wiring l.tie) 0 (length l.wiring.slots)) (texts_from (slot_ties l.wiring l.tie) l.s ((length l.wiring.slots) - l.s))
