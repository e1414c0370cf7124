use Rattle.law_models.proofs.joined_ports.Points.{models_link_one_protocol}
use Rattle.law_models.proofs.joined_ports.linked_ports_have_one_protocol.Goals as goal

pub returns : goal.returns
returns c = models_link_one_protocol
