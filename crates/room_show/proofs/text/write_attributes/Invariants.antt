use Rattle.std.proofs.Common.{drop}
use Rattle.room_outside.specs.line_text.Output.{at_rest}
use Rattle.room_show.specs.Text.{attribute_lines}
use Rattle.room_outside.proofs.line_text.Going.{Going}
use Rattle.room_show.proofs.text.write_attributes.Given as goal

abbrev pub invariant-loop-attribute : goal.invariant-loop-attribute
invariant-loop-attribute g l =
    Going (at_rest (g.K.Sink.written l.initial.sink) l.initial.out) (at_rest (g.K.Sink.written l.sink) l.out)
    (attribute_lines l.attributes l.numbers) (attribute_lines (drop l.attribute-index l.attributes) l.left)
