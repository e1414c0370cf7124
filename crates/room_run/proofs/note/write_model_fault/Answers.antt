use Rattle.std.proofs.Common.{ℕ, List, ◌∷◌, [], codes, decimal, sym, subst, ◌∙◌}
use Rattle.chart_reader.specs.Faults.{number}
use Rattle.room_outside.specs.line_text.Lines.{line}
use Rattle.room_outside.specs.Written.{Writes}
use Rattle.room_run.specs.Causes.{note_of_fault}
use Rattle.room_run.specs.declared.model_fault.ModelFault.{ModelFault}
use Rattle.room_run.proofs.note.write_model_fault.Goals as goal

pub returns-in-Byte : goal.returns-in-Byte
returns-in-Byte g c =
    subst (λ (z : ModelFault). Writes c.write_number.result (g.K.Sink.written c.args.notes.now) (g.K.Sink.written c.write_number.new.notes) (note_of_fault z)) (sym c.in-Byte.is)
    c.write_number.ensures

pub returns-in-Syntax : goal.returns-in-Syntax
returns-in-Syntax g c =
    subst (λ (z : ModelFault). Writes c.write_number-in-Syntax.result (g.K.Sink.written c.args.notes.now) (g.K.Sink.written c.write_number-in-Syntax.new.notes) (note_of_fault z)) (sym c.in-Syntax.is)
    (subst (λ (n : ℕ). Writes c.write_number-in-Syntax.result (g.K.Sink.written c.args.notes.now) (g.K.Sink.written c.write_number-in-Syntax.new.notes) (line (codes "room: model refused: syntax " ∷ decimal n ∷ []))) c.from.ensures c.write_number-in-Syntax.ensures)

pub returns-in-Bases : goal.returns-in-Bases
returns-in-Bases g c =
    subst (λ (z : ModelFault). Writes c.write_number-in-Bases.result (g.K.Sink.written c.args.notes.now) (g.K.Sink.written c.write_number-in-Bases.new.notes) (note_of_fault z)) (sym c.in-Bases.is)
    (subst (λ (n : ℕ). Writes c.write_number-in-Bases.result (g.K.Sink.written c.args.notes.now) (g.K.Sink.written c.write_number-in-Bases.new.notes) (line (codes "room: model refused: rule " ∷ decimal n ∷ []))) (c.from-in-Bases.ensures ∙ c.number.ensures) c.write_number-in-Bases.ensures)

pub returns-in-Rule : goal.returns-in-Rule
returns-in-Rule g c =
    subst (λ (z : ModelFault). Writes c.write_number-in-Rule.result (g.K.Sink.written c.args.notes.now) (g.K.Sink.written c.write_number-in-Rule.new.notes) (note_of_fault z)) (sym c.in-Rule.is)
    (subst (λ (n : ℕ). Writes c.write_number-in-Rule.result (g.K.Sink.written c.args.notes.now) (g.K.Sink.written c.write_number-in-Rule.new.notes) (line (codes "room: model refused: rule " ∷ decimal n ∷ []))) (c.from-in-Rule.ensures ∙ c.number-in-Rule.ensures) c.write_number-in-Rule.ensures)

pub returns-in-Wiring : goal.returns-in-Wiring
returns-in-Wiring g c =
    subst (λ (z : ModelFault). Writes c.write_number-in-Wiring.result (g.K.Sink.written c.args.notes.now) (g.K.Sink.written c.write_number-in-Wiring.new.notes) (note_of_fault z)) (sym c.in-Wiring.is)
    (subst (λ (n : ℕ). Writes c.write_number-in-Wiring.result (g.K.Sink.written c.args.notes.now) (g.K.Sink.written c.write_number-in-Wiring.new.notes) (line (codes "room: model refused: wiring " ∷ decimal n ∷ []))) (c.from-in-Wiring.ensures ∙ c.number-in-Wiring.ensures) c.write_number-in-Wiring.ensures)

pub returns-in-Chart : goal.returns-in-Chart
returns-in-Chart g c =
    subst (λ (z : ModelFault). Writes c.write_class.result (g.K.Sink.written c.args.notes.now) (g.K.Sink.written c.write_class.new.notes) (note_of_fault z)) (sym c.in-Chart.is)
    (subst (λ (name : List ℕ). Writes c.write_class.result (g.K.Sink.written c.args.notes.now) (g.K.Sink.written c.write_class.new.notes) (line (codes "room: model refused: chart " ∷ name ∷ codes " " ∷ decimal (number c.in-Chart.fault) ∷ []))) c.as_bytes.ensures
    (subst (λ (n : ℕ). Writes c.write_class.result (g.K.Sink.written c.args.notes.now) (g.K.Sink.written c.write_class.new.notes) (line (codes "room: model refused: chart " ∷ c.as_bytes.result.now ∷ codes " " ∷ decimal n ∷ []))) (c.from-in-Chart.ensures ∙ c.number-in-Chart.ensures) c.write_class.ensures))
