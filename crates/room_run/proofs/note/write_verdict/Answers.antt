use Rattle.std.proofs.Common.{ℕ, ◌∷◌, [], codes, decimal, sym, subst}
use Rattle.room_outside.specs.line_text.Lines.{line}
use Rattle.room_outside.specs.Written.{Writes}
use Rattle.room_verify.specs.declared.verdict.Verdict.{Verdict}
use Rattle.room_run.specs.Causes.{verdict_line}
use Rattle.room_run.proofs.note.write_verdict.Goals as goal

pub returns-in-Start : goal.returns-in-Start
returns-in-Start g c =
    subst (λ (v : Verdict). Writes c.write_number.result (g.K.Sink.written c.args.notes.now) (g.K.Sink.written c.write_number.new.notes) (verdict_line c.args.controllers v)) (sym c.in-Start.is)
    (subst (λ (n : ℕ). Writes c.write_number.result (g.K.Sink.written c.args.notes.now) (g.K.Sink.written c.write_number.new.notes) (line (codes "room: unlawful: start " ∷ decimal n ∷ []))) c.from.ensures c.write_number.ensures)

pub returns-in-Left : goal.returns-in-Left
returns-in-Left g c =
    subst (λ (v : Verdict). Writes c.write_text.result (g.K.Sink.written c.args.notes.now) (g.K.Sink.written c.write_text.new.notes) (verdict_line c.args.controllers v)) (sym c.in-Left.is) c.write_text.ensures

pub returns-in-Fuel : goal.returns-in-Fuel
returns-in-Fuel g c =
    subst (λ (v : Verdict). Writes c.write_number-in-Fuel.result (g.K.Sink.written c.args.notes.now) (g.K.Sink.written c.write_number-in-Fuel.new.notes) (verdict_line c.args.controllers v)) (sym c.in-Fuel.is)
    (subst (λ (n : ℕ). Writes c.write_number-in-Fuel.result (g.K.Sink.written c.args.notes.now) (g.K.Sink.written c.write_number-in-Fuel.new.notes) (line (codes "room: unlawful: fuel " ∷ decimal n ∷ []))) c.from-in-Fuel.ensures c.write_number-in-Fuel.ensures)

pub returns-in-Ended : goal.returns-in-Ended
returns-in-Ended g c =
    subst (λ (v : Verdict). Writes c.write_text-in-Ended.result (g.K.Sink.written c.args.notes.now) (g.K.Sink.written c.write_text-in-Ended.new.notes) (verdict_line c.args.controllers v)) (sym c.in-Ended.is) c.write_text-in-Ended.ensures

pub returns-in-Prompt : goal.returns-in-Prompt
returns-in-Prompt g c =
    subst (λ (v : Verdict). Writes c.write_place.result (g.K.Sink.written c.args.notes.now) (g.K.Sink.written c.write_place.new.notes) (verdict_line c.args.controllers v)) (sym c.in-Prompt.is)
    (subst (λ (n : ℕ). Writes c.write_place.result (g.K.Sink.written c.args.notes.now) (g.K.Sink.written c.write_place.new.notes) (line (codes "room: unlawful: prompt " ∷ decimal n ∷ codes " " ∷ decimal c.in-Prompt.stamp.0 ∷ [])))
    c.from-in-Prompt.ensures c.write_place.ensures)
