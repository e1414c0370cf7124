use Rattle.std.proofs.Common.{◌≡◌, drop}
use Rattle.journal_reader.specs.journal_fits.Judge.{fits_notes}
use Rattle.journal_reader.proofs.journal_fits.messages.fits_notes.Given as goal

abbrev pub invariant-loop-note : goal.invariant-loop-note
invariant-loop-note l = fits_notes l.wiring l.duty l.speaking (drop l.note-index l.notes) ≡ fits_notes l.wiring l.duty l.fn.speaker l.notes
