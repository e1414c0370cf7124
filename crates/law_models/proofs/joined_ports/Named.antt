-- Two ports of slots whose entries have one protocol have one protocol by their names, and the same messages.
use Rattle.std.proofs.Common.{◌≡◌, ◌∙◌, ℕ, false, List, Option, Some, option_and_then, refl, sym, ap}
use Rattle.room_ast.specs.Trees.{ModelTree}
use Rattle.room_ast.specs.declared.model_parts.entries.PortEntry.{PortEntry}
use Rattle.room_wiring.specs.Slots.{port_at}
use Rattle.room_wiring.specs.WellNamed.{signals_of}
use Rattle.room_wiring.specs.declared.names.PortNames.{PortNames}
use Rattle.room_wiring.specs.declared.tables.Tables.{Tables}
use Rattle.check_scopes.specs.class_scopes.Signals.{is_frame}
use Rattle.wiring_plan.specs.structure_plan.Parts.{short}
use Rattle.actor_duties.specs.Words.{port_at as duty_port}
use Rattle.law_models.specs.joined_ports.Protocols.{HasOneProtocol}
use Rattle.law_models.proofs.joined_ports.Entries.{named_port, same_signals}

-- a port of a slot, as the duties of actors have it
pub duty_ports : (t : Tables) (s p : ℕ) → duty_port t s p ≡ port_at t s p
unfolding duty_port port_at
duty_ports t s p = refl

-- a port of a slot by its names, which isn't `frame`, and is of this protocol
pub record IsNamed (m : ModelTree) (t : Tables) (s p : ℕ) (protocol : Option ℕ) : Type 0 where
  pub port : PortNames
  pub port_is : port_at t s p ≡ Some port
  pub name : List ℕ
  pub entry : PortEntry
  pub named : named_port m name entry ≡ port
  pub protocol_is : entry.protocol ≡ protocol
  pub plain : is_frame entry.kind ≡ false

pub named_alike : (m : ModelTree) (t : Tables) (s p x q : ℕ) (protocol : Option ℕ) → IsNamed m t s p protocol → IsNamed m t x q protocol → HasOneProtocol t s p x q
named_alike m t s p x q protocol a b = record {
  near = a.port;
  far = b.port;
  near_is = a.port_is;
  far_is = b.port_is;
  protocol = ap (λ (z : PortNames). z.protocol) (sym a.named) ∙ ap (option_and_then short) (a.protocol_is ∙ sym b.protocol_is) ∙ ap (λ (z : PortNames). z.protocol) b.named;
  signals = ap signals_of (sym a.named) ∙ same_signals m a.name b.name a.entry b.entry protocol a.protocol_is b.protocol_is a.plain b.plain ∙ ap signals_of b.named;
}
