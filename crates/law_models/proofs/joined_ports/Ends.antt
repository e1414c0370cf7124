-- Faces of places by the protocols of their ports: each face has one, which is that of the face across it.
use Rattle.std.proofs.Common.{◌≡◌, ◌≢◌, ◌∙◌, ℕ, ◌-◌, ◌*◌, ◌<◌, ◌+◌, false, List, Option, Some, slice_index, sym, ap, arith, length}
use Rattle.std.proofs.lemmas.Option.{same_Some}
use Rattle.room_ast.specs.Trees.{ModelTree}
use Rattle.room_ast.specs.declared.model_parts.entries.PortEntry.{PortEntry}
use Rattle.room_wiring.specs.declared.slot.Slot.{Slot}
use Rattle.check_scopes.specs.class_scopes.Signals.{is_frame}
use Rattle.wiring_plan.specs.structure_plan.Plans.{plan_of}
use Rattle.wiring_plan.specs.declared.structure_plan.plan.PortPlan.{PortPlan}
use Rattle.wiring_places.specs.declared.place_rules.place.LayerJoin.{LayerJoin}
use Rattle.wiring_places.specs.declared.place_rules.place.Place.{Place}
use Rattle.wiring_places.specs.place_rules.Partners.{across_places}
use Rattle.wiring_joins.proofs.place_faces.Faces.{IsFace, same_face}
use Rattle.law_models.proofs.joined_ports.Across.{turned}
use Rattle.law_models.proofs.joined_ports.Entries.{entry_at}

-- a face is that of a place of a port of this protocol, which isn't `frame`
pub record IsEnd (m : ModelTree) (slots : List Slot) (joins : List LayerJoin) (f : ℕ) (protocol : Option ℕ) : Type 0 where
  pub s : ℕ
  pub p : ℕ
  pub k : ℕ
  pub d : ℕ
  pub x : Slot
  pub port : PortPlan
  pub face : IsFace (plan_of m) slots joins f s p k d x port
  pub entry : PortEntry
  pub entry_is : entry_at m x.class p ≡ Some entry
  pub protocol_is : entry.protocol ≡ protocol
  pub plain : is_frame entry.kind ≡ false

-- two faces are those of places of ports of one protocol
pub record ShareProtocol (m : ModelTree) (slots : List Slot) (joins : List LayerJoin) (f g : ℕ) : Type 0 where
  pub protocol : Option ℕ
  pub left : IsEnd m slots joins f protocol
  pub right : IsEnd m slots joins g protocol

pub turned_round : (m : ModelTree) (slots : List Slot) (joins : List LayerJoin) (f g : ℕ) → ShareProtocol m slots joins f g → ShareProtocol m slots joins g f
turned_round m slots joins f g h = record { protocol = h.protocol; left = h.right; right = h.left }

module _ (m : ModelTree) (slots : List Slot) (joins : List LayerJoin) where
  -- the protocol of a face's port, by whichever place and side the face is told
  pub same_protocols : (f : ℕ) (a b : Option ℕ) → IsEnd m slots joins f a → IsEnd m slots joins f b → a ≡ b
  same_protocols f a b u v =
      let same = same_face (plan_of m) slots joins f u.s u.p u.k u.d u.x u.port v.s v.p v.k v.d v.x v.port u.face v.face in
      let entries : u.entry ≡ v.entry =
      same_Some u.entry v.entry (sym u.entry_is ∙ ap (λ (z : Slot). entry_at m z.class u.p) same.slot_is ∙ ap (entry_at m v.x.class) same.port_number ∙ v.entry_is) in
      sym u.protocol_is ∙ ap (λ (z : PortEntry). z.protocol) entries ∙ v.protocol_is

  -- the other face of a place
  pub end_across : (places : List Place) (f : ℕ) (protocol : Option ℕ) → f < 2 * length places → slice_index (across_places places) f ≢ f
      → IsEnd m slots joins f protocol → IsEnd m slots joins (slice_index (across_places places) f) protocol
  end_across places f protocol below ne u =
      let here : 0 + f ≡ f = omega arith in
      let other = turned 0 places f below (λ e. ne (e ∙ here)) in
      let side = other.2 in
      let number = other.3 in
      let turn = other.4 in
      let own = u.face.number in
      let own_side = u.face.outer_or_inner in
      record {
        s = u.s;
        p = u.p;
        k = u.k;
        d = 1 - u.d;
        x = u.x;
        port = u.port;
        face = record { at = u.face.at; within = u.face.within; outer_or_inner = omega arith; number = omega (arith, side, number, turn, own, own_side) };
        entry = u.entry;
        entry_is = u.entry_is;
        protocol_is = u.protocol_is;
        plain = u.plain;
      }
