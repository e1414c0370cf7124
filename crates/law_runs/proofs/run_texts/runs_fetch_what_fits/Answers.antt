use Rattle.law_runs.proofs.run_texts.TextsLaw.{fetches_fit}
use Rattle.law_runs.proofs.run_texts.runs_fetch_what_fits.Goals as goal

pub returns : goal.returns
returns c = fetches_fit
