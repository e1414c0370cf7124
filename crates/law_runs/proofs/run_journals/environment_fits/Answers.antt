use Rattle.law_runs.proofs.run_journals.OutsideLaw.{environment_fits, fit_lines_name}
use Rattle.law_runs.proofs.run_journals.environment_fits.Goals as goal

pub returns-clause-environment : goal.returns-clause-environment
returns-clause-environment c = environment_fits

pub returns-clause-lines : goal.returns-clause-lines
returns-clause-lines c = fit_lines_name
