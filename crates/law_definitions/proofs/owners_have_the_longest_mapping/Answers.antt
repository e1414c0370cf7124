use Rattle.law_definitions.proofs.Owners.{longest_mapping}
use Rattle.law_definitions.proofs.Slots.{slots_owned}
use Rattle.law_definitions.proofs.owners_have_the_longest_mapping.Goals as goal

pub returns-clause-ways : goal.returns-clause-ways
returns-clause-ways c = longest_mapping

pub returns-clause-slots : goal.returns-clause-slots
returns-clause-slots c = slots_owned
