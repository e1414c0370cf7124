-- Models in which all names that a wiring has are identifiers.
use Rattle.room_ast.specs.Trees.{ModelTree}
use Rattle.law_models.specs.wiring_laws.model_paths.Identifiers.{NamesReferences}
use Rattle.law_models.specs.wiring_laws.model_names.Identifiers.{NamesParts}
use Rattle.law_models.specs.wiring_laws.state_names.States.{NamesStates}

-- References, ports, messages, threads and states are called by identifiers, and the states of each graph of a chart by different ones.
pub record HasIdentifiers (m : ModelTree) : Type 0 where
  pub references : NamesReferences m
  pub parts : NamesParts m
  pub states : NamesStates m
