use Rattle.std.proofs.Common.{◌∙◌, ℕ, ◌∷◌, [], codes, decimal, sym, subst}
use Rattle.room_outside.specs.line_text.Lines.{line}
use Rattle.room_outside.specs.Written.{Writes}
use Rattle.room_run.specs.Causes.{note_of}
use Rattle.room_run.specs.declared.refusal.Refusal.{Refusal}
use Rattle.room_run.proofs.note.write_refusal.Goals as goal

pub returns-in-Words : goal.returns-in-Words
returns-in-Words g c =
    subst (λ (z : Refusal). Writes c.write_text.result (g.K.Sink.written c.args.notes.now) (g.K.Sink.written c.write_text.new.notes) (note_of z)) (sym c.in-Words.is)
    c.write_text.ensures

pub returns-in-ModelTooLong : goal.returns-in-ModelTooLong
returns-in-ModelTooLong g c =
    subst (λ (z : Refusal). Writes c.write_text-in-ModelTooLong.result (g.K.Sink.written c.args.notes.now) (g.K.Sink.written c.write_text-in-ModelTooLong.new.notes) (note_of z)) (sym c.in-ModelTooLong.is)
    c.write_text-in-ModelTooLong.ensures

pub returns-in-InjectionsTooLong : goal.returns-in-InjectionsTooLong
returns-in-InjectionsTooLong g c =
    subst (λ (z : Refusal). Writes c.write_text-in-InjectionsTooLong.result (g.K.Sink.written c.args.notes.now) (g.K.Sink.written c.write_text-in-InjectionsTooLong.new.notes) (note_of z)) (sym c.in-InjectionsTooLong.is)
    c.write_text-in-InjectionsTooLong.ensures

pub returns-in-JournalsTooLong : goal.returns-in-JournalsTooLong
returns-in-JournalsTooLong g c =
    subst (λ (z : Refusal). Writes c.write_text-in-JournalsTooLong.result (g.K.Sink.written c.args.notes.now) (g.K.Sink.written c.write_text-in-JournalsTooLong.new.notes) (note_of z)) (sym c.in-JournalsTooLong.is)
    c.write_text-in-JournalsTooLong.ensures

pub returns-in-JournalsMalformed : goal.returns-in-JournalsMalformed
returns-in-JournalsMalformed g c =
    subst (λ (z : Refusal). Writes c.write_number.result (g.K.Sink.written c.args.notes.now) (g.K.Sink.written c.write_number.new.notes) (note_of z)) (sym c.in-JournalsMalformed.is)
    c.write_number.ensures

pub returns-in-InjectionsLine : goal.returns-in-InjectionsLine
returns-in-InjectionsLine g c =
    subst (λ (z : Refusal). Writes c.write_place.result (g.K.Sink.written c.args.notes.now) (g.K.Sink.written c.write_place.new.notes) (note_of z)) (sym c.in-InjectionsLine.is)
    (subst (λ (n : ℕ). Writes c.write_place.result (g.K.Sink.written c.args.notes.now) (g.K.Sink.written c.write_place.new.notes) (line (codes "room: injections refused: line " ∷ decimal c.in-InjectionsLine.line ∷ codes " " ∷ decimal n ∷ []))) (c.from-in-InjectionsLine.ensures ∙ c.code.ensures)
    (subst (λ (n : ℕ). Writes c.write_place.result (g.K.Sink.written c.args.notes.now) (g.K.Sink.written c.write_place.new.notes) (line (codes "room: injections refused: line " ∷ decimal n ∷ codes " " ∷ decimal c.from-in-InjectionsLine.result ∷ []))) c.from.ensures c.write_place.ensures))

pub returns-in-JournalsUntied : goal.returns-in-JournalsUntied
returns-in-JournalsUntied g c =
    subst (λ (z : Refusal). Writes c.write_place-in-JournalsUntied.result (g.K.Sink.written c.args.notes.now) (g.K.Sink.written c.write_place-in-JournalsUntied.new.notes) (note_of z)) (sym c.in-JournalsUntied.is)
    (subst (λ (n : ℕ). Writes c.write_place-in-JournalsUntied.result (g.K.Sink.written c.args.notes.now) (g.K.Sink.written c.write_place-in-JournalsUntied.new.notes) (line (codes "room: journals refused: untied " ∷ decimal n ∷ codes " " ∷ decimal c.in-JournalsUntied.stamp.0 ∷ []))) c.from-in-JournalsUntied.ensures c.write_place-in-JournalsUntied.ensures)
