-- What the ports of joined places have in common.
-- `HasOneProtocol`: the ports of two places are of one protocol, so that they have the same messages, under the same
-- numbers. In the wiring of a model that keeps all rules and has no fault the ports of two places that are joined, by
-- bindings or by layer connections, are so: the law `ModelsJoinOneProtocol`. What is joined to an imported slot is
-- joined to a place of a port of the slot's class. And service points are so whose protocols have one number, by which
-- the name table finds the service of a point: the law `ModelsLinkOneProtocol`.
use Rattle.std.specs.Prelude.{◌≡◌, ℕ, true, Some, None}
use Rattle.room_ast.specs.Trees.{ModelTree}
use Rattle.room_kinds.specs.declared.numbers.SlotId.{SlotId}
use Rattle.room_wiring.specs.Slots.{port_at}
use Rattle.room_wiring.specs.WellNamed.{signals_of}
use Rattle.room_wiring.specs.declared.names.PortNames.{PortNames}
use Rattle.room_wiring.specs.declared.slot.Partner.TheVariants as partners
use Rattle.room_wiring.specs.declared.tables.Tables.{Tables}
use Rattle.structure_check.specs.List.{all_rules}
use Rattle.structure_check.specs.Rules.{first_broken}
use Rattle.binding_expand.specs.Faults.{HasNoFault}
use Rattle.binding_expand.specs.Wirings.{IsWiringOf}
use Rattle.actor_duties.specs.Words.{protocol_of, joined_at}
use Rattle.law_names.specs.Registrations.{is_point_port}

-- port p of slot s and port q of slot x are of one protocol, and have the same messages
pub record HasOneProtocol (t : Tables) (s p x q : ℕ) : Type 0 where
  pub near : PortNames
  pub far : PortNames
  pub near_is : port_at t s p ≡ Some near
  pub far_is : port_at t x q ≡ Some far
  pub protocol : near.protocol ≡ far.protocol
  pub signals : signals_of near ≡ signals_of far

-- so are the port of each place and that of what the place is joined to
pub record JoinsOneProtocol (t : Tables) : Type 0 where
  pub ends : (s p k : ℕ) (x : SlotId) (q j : ℕ) → joined_at t s p k ≡ partners.End x q j → HasOneProtocol t s p x.0 q
  pub sockets : (s p k : ℕ) (x : SlotId) (q j : ℕ) → joined_at t s p k ≡ partners.Socket x q j → HasOneProtocol t s p x.0 q

-- over every model that keeps all rules and has no fault, and its wiring
abbrev pub ModelsJoinOneProtocol : Type 0
ModelsJoinOneProtocol =
    (m : ModelTree) (t : Tables) → first_broken all_rules m ≡ None → IsWiringOf m t → HasNoFault m → JoinsOneProtocol t

-- so are two service points whose protocols have one number
abbrev pub LinksOneProtocol : Tables → Type 0
LinksOneProtocol t =
    (s p x q : ℕ) → is_point_port t s p ≡ true → is_point_port t x q ≡ true → protocol_of t s p ≡ protocol_of t x q → HasOneProtocol t s p x q

-- over every model that keeps all rules, and its wiring
abbrev pub ModelsLinkOneProtocol : Type 0
ModelsLinkOneProtocol = (m : ModelTree) (t : Tables) → first_broken all_rules m ≡ None → IsWiringOf m t → LinksOneProtocol t
