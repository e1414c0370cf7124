use Rattle.law_models.proofs.joined_ports.Joined.{models_join_one_protocol}
use Rattle.law_models.proofs.joined_ports.joined_ports_have_one_protocol.Goals as goal

pub returns : goal.returns
returns c = models_join_one_protocol
