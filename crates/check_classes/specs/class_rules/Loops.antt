-- A test of the classes of one kind, as a test of every class.
use Rattle.std.specs.Prelude.{Bool, true}
use Rattle.std.specs.Option.{option_map_or}
use Rattle.room_ast.specs.Trees.{ClassTree, ActorTree}
use Rattle.room_ast.specs.declared.protocol.DataClass.{DataClass}
use Rattle.room_ast.specs.declared.protocol.ProtocolClass.{ProtocolClass}
use Rattle.room_ast.specs.model_parts.Classes.{as_actor, as_protocol, as_data}

-- Whether a class, if it is an actor class, passes.
abbrev pub of_actor : (ActorTree → Bool) → ClassTree → Bool
of_actor p c = option_map_or p (as_actor c) true

-- Whether a class, if it is a protocol class, passes.
abbrev pub of_protocol : (ProtocolClass → Bool) → ClassTree → Bool
of_protocol p c = option_map_or p (as_protocol c) true

-- Whether a class, if it is a data class, passes.
abbrev pub of_data : (DataClass → Bool) → ClassTree → Bool
of_data p c = option_map_or p (as_data c) true
