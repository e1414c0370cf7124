-- Models whose references are called by identifiers.
use Rattle.std.specs.Prelude.{All}
use Rattle.room_ast.specs.Trees.{ModelTree, ActorTree, SubsystemTree}
use Rattle.room_wiring.specs.WellNamed.{IsIdent}
use Rattle.room_ast.specs.model_parts.Classes.{actors, subsystems}
use Rattle.room_ast.specs.model_parts.References.{references_of, subsystem_references, names_of_references}

-- The names of the references of each actor class and of each subsystem class are identifiers, as they are in each model that is read from a text.
pub record NamesReferences (m : ModelTree) : Type 0 where
  pub actors : All (λ (a : ActorTree). All IsIdent (names_of_references (references_of a))) (actors m)
  pub subsystems : All (λ (s : SubsystemTree). All IsIdent (names_of_references (subsystem_references s))) (subsystems m)
