use Rattle.std.proofs.lemmas.Bool.Decides.{Decides-at}
use Rattle.journal_reader.specs.journal_fits.Judge.{fits}
use Rattle.journal_reader.proofs.journal_fits.Meaning.{fits_mean}
use Rattle.journal_reader.proofs.journal_fits.journals.fits.Goals as goal

pub returns-clause-fits : goal.returns-clause-fits
returns-clause-fits c = Decides-at c.judged.result (fits c.args.wiring.now c.args.journals.now) c.judged.ensures.judged (fits_mean c.args.wiring.now c.args.journals.now)
