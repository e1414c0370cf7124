use Rattle.inject_reader.proofs.EndPlaces.{read_fit}
use Rattle.inject_reader.proofs.fitting.read_lines_fit.Goals as goal

pub returns : goal.returns
returns c = read_fit
