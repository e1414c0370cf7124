use Rattle.std.proofs.Common.{◌≡◌, drop}
use Rattle.journal_reader.specs.journal_fits.Judge.{fits_journals}
use Rattle.journal_reader.proofs.journal_fits.journals.fits_journals.Given as goal

abbrev pub invariant-loop-c : goal.invariant-loop-c
invariant-loop-c l = fits_journals l.wiring l.c (drop l.c l.journals) ≡ fits_journals l.wiring 0 l.journals
