-- Models whose ports, messages and threads are called by identifiers.
use Rattle.std.specs.Prelude.{All, ◌++◌}
use Rattle.room_ast.specs.Trees.{ModelTree, ActorTree}
use Rattle.room_ast.specs.declared.protocol.ProtocolClass.{ProtocolClass}
use Rattle.room_wiring.specs.WellNamed.{IsIdent}
use Rattle.room_ast.specs.model_parts.Classes.{actors, protocols}
use Rattle.room_ast.specs.model_parts.Ports.{port_names}
use Rattle.room_ast.specs.model_parts.Types.{incoming_of, outgoing_of}
use Rattle.check_classes.specs.class_rules.Names.{message_names}
use Rattle.check_mappings.specs.mapping_rules.Rules.{thread_names}
use Rattle.wiring_slots.specs.slot_names.Names.{wired_of}

-- The names of the ports of each actor class, of the messages of each protocol class and of the threads are identifiers, as they are in each model that is read from a text.
pub record NamesParts (m : ModelTree) : Type 0 where
  pub ports : All (λ (a : ActorTree). All IsIdent (port_names a)) (actors m)
  pub messages : All (λ (p : ProtocolClass). All IsIdent (message_names (incoming_of p) ++ message_names (outgoing_of p))) (protocols m)
  pub threads : All IsIdent (thread_names (wired_of m).items)
