use Rattle.law_models.proofs.wiring_laws.wiring_order.Ordered.{model_depth_first}
use Rattle.law_models.proofs.wiring_laws.ports_numbered.Numbered.{checked_numbered}
use Rattle.law_models.proofs.wiring_laws.ports_numbered.wiring_fits.Goals as goal

pub returns-clause-order : goal.returns-clause-order
returns-clause-order c = λ m t kept slots classes. model_depth_first m t slots

pub returns-clause-ports : goal.returns-clause-ports
returns-clause-ports c = λ m t kept slots classes. checked_numbered m t kept classes
