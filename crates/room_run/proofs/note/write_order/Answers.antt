use Rattle.std.proofs.Common.{ℕ, List, ◌∷◌, [], codes, subst}
use Rattle.room_outside.specs.line_text.Lines.{line}
use Rattle.room_outside.specs.Written.{Writes}
use Rattle.room_run.proofs.note.write_order.Goals as goal

pub returns : goal.returns
returns g c =
    subst (λ (called : List ℕ). Writes c.write_only_line.result (g.K.Sink.written c.args.notes.now) (g.K.Sink.written c.write_only_line.new.sink) (line (codes "room: unlawful: order " ∷ called ∷ [])))
    c.party_part.ensures c.write_only_line.ensures
