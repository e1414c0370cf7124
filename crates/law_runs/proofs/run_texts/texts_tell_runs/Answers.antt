use Rattle.law_runs.proofs.run_texts.TextsLaw.{texts_tell}
use Rattle.law_runs.proofs.run_texts.texts_tell_runs.Goals as goal

pub returns : goal.returns
returns c = texts_tell
