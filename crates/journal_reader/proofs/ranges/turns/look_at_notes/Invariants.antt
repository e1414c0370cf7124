use Rattle.std.proofs.Common.{All, take}
use Rattle.journal_reader.specs.journal_texts.InRange.{InRangeNote}
use Rattle.journal_reader.proofs.ranges.turns.look_at_notes.Given as goal

abbrev pub invariant-loop-note : goal.invariant-loop-note
invariant-loop-note l = All InRangeNote (take l.note-index l.notes)
