use Rattle.std.proofs.Common.{arith}
use Rattle.std.proofs.lemmas.List.Elements.{All-more}
use Rattle.journal_reader.specs.journal_texts.InRange.{InRangeNote}
use Rattle.journal_reader.proofs.ranges.Looking.{all_looked_at}
use Rattle.journal_reader.proofs.ranges.turns.look_at_notes.Goals as goal

pub loop-note-preserved : goal.loop-note-preserved
loop-note-preserved c = All-more InRangeNote c.args.notes.now c.loop-note.note-index _ c.loop-note-test.true c.loop-note.invariant c.look_at_note.ensures

pub returns : goal.returns
returns c = let past = c.loop-note-test.false in all_looked_at InRangeNote c.args.notes.now c.loop-note.note-index (omega (arith, past)) c.loop-note.invariant
