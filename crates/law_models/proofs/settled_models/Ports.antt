-- The places of an imported slot that are joined are those of its class's end ports: no service point of an
-- imported slot is joined.
use Rattle.std.proofs.Common.{◌≡◌, ◌∙◌, ℕ, zero, suc, ◌<◌, Bool, true, false, List, [], ◌∷◌, map, Option, Some, None, slice_get, slice_index_or, option_and_then, refl, sym, ap, arith}
use Rattle.std.specs.Option.{option_map_or}
use Rattle.std.proofs.lemmas.Option.{same_Some}
use Rattle.room_kinds.specs.declared.structure.PortKind.{PortKind}
use Rattle.room_kinds.specs.declared.structure.PortKind.TheVariants as ports
use Rattle.room_kinds.specs.Structure.{is_imported}
use Rattle.room_ast.specs.Trees.{ModelTree, ActorTree}
use Rattle.room_ast.specs.declared.model_parts.entries.PortEntry.{PortEntry}
use Rattle.room_ast.specs.model_parts.Classes.{actors, actor_names, protocol_names}
use Rattle.room_ast.specs.model_parts.Ports.{structure_of}
use Rattle.room_wiring.specs.declared.names.ClassNames.{ClassNames}
use Rattle.room_wiring.specs.declared.names.PortNames.{PortNames}
use Rattle.room_wiring.specs.declared.slot.Slot.{Slot}
use Rattle.room_wiring.specs.declared.tables.Tables.{Tables}
use Rattle.room_wiring.specs.Slots.{class_at, class_of}
use Rattle.check_tables.specs.class_tables.Containers.{actor_container, tables_of}
use Rattle.structure_check.specs.Rules.{first_broken}
use Rattle.structure_check.specs.List.{all_rules}
use Rattle.wiring_plan.specs.structure_plan.Parts.{port_plan}
use Rattle.wiring_plan.specs.structure_plan.Plans.{actor_plan, plan_of}
use Rattle.wiring_plan.specs.wiring_classes.Parts.{named, port_names_of}
use Rattle.wiring_plan.specs.wiring_classes.Classes.{labelled_signals, ports_in, class_names, classes_of}
use Rattle.wiring_plan.specs.declared.structure_plan.plan.ClassPlan.{ClassPlan}
use Rattle.wiring_plan.specs.declared.structure_plan.plan.PortPlan.{PortPlan}
use Rattle.wiring_plan.specs.declared.structure_plan.plan.PlacesPlan.{PlacesPlan}
use Rattle.wiring_slots.specs.model_slots.Answers.{slots_in}
use Rattle.wiring_places.specs.place_rules.Parts.{class_plan, no_class}
use Rattle.wiring_places.specs.place_rules.Counts.{place_count}
use Rattle.binding_expand.specs.Wirings.{IsWiringOf}
use Rattle.binding_expand.specs.Faults.{HasNoFault}
use Rattle.actor_duties.specs.Words.{is_imported as is_imported_slot, is_sap_kind, is_spp_kind, is_sap, is_spp, port_at, is_joined, joined_at}
use Rattle.law_models.proofs.settled_models.Joins.{IsPlace, slot_is, imported_is, joined_place}

-- a kind that is no service point's
abbrev IsNoService : PortKind → Type 0
IsNoService k = (is_sap_kind k ≡ false) × (is_spp_kind k ≡ false)

-- ports of these kinds alone have places at an imported slot
no_service : (imported : Bool) (kind : PortKind) (places : PlacesPlan) (outside inside served k : ℕ) → imported ≡ true → k < place_count imported kind places outside inside served → IsNoService kind
no_service imported ports.Frame places outside inside served k is lt = (refl, refl)
no_service imported ports.Relay places outside inside served k is lt = (refl, refl)
no_service imported ports.End places outside inside served k is lt = (refl, refl)
no_service imported ports.Internal places outside inside served k is lt = (refl, refl)
no_service true ports.Sap places outside inside served k is lt = absurd (omega (arith, lt))
no_service false ports.Sap places outside inside served k is lt = absurd cc
no_service true ports.Spp places outside inside served k is lt = absurd (omega (arith, lt))
no_service false ports.Spp places outside inside served k is lt = absurd cc

-- ---- kinds by name and by structure

-- a port by its name has the kind that it has by its structure
abbrev KindsAgree : Option PortNames → Option PortPlan → Type 0
KindsAgree o p = (x : PortNames) (y : PortPlan) → o ≡ Some x → p ≡ Some y → x.kind ≡ y.kind

named_kinds : (make : List ℕ → PortEntry → PortNames) → ((name : List ℕ) (e : PortEntry) → (make name e).kind ≡ e.kind) → (ns : List (List ℕ)) (es : List PortEntry) (p : ℕ)
    → KindsAgree (slice_get (named make ns es) p) (slice_get (map port_plan es) p)
named_kinds make same [] es p x y a b = absurd cc
named_kinds make same (n ∷ ns) [] p x y a b = absurd cc
named_kinds make same (n ∷ ns) (e ∷ es) zero x y a b =
    ap (λ (z : PortNames). z.kind) (sym (same_Some (make n e) x a)) ∙ same n e ∙ ap (λ (z : PortPlan). z.kind) (same_Some (port_plan e) y b)
named_kinds make same (n ∷ ns) (e ∷ es) (suc p) x y a b = named_kinds make same ns es p x y a b

module _ (m : ModelTree) where
  abbrev planned : ActorTree → ClassPlan
  planned a = actor_plan (tables_of m).actors (actor_container (protocol_names m) (actor_names m) a) (structure_of a)

  class_kinds : (a : ActorTree) (p : ℕ) → KindsAgree (slice_get (class_names m a).ports p) (slice_get (planned a).ports p)
  unfolding class_names ports_in
  class_kinds a p =
      let c = actor_container (protocol_names m) (actor_names m) a in
      named_kinds (port_names_of (protocol_names m) (labelled_signals m)) (λ name e. refl) c.port_names c.ports p

  classes_kinds : (xs : List ActorTree) (c p : ℕ) → KindsAgree (option_and_then (λ (k : ClassNames). slice_get k.ports p) (slice_get (map (class_names m) xs) c)) (slice_get (slice_index_or (map planned xs) c no_class).ports p)
  classes_kinds [] c p x y a b = absurd cc
  classes_kinds (k ∷ ks) zero p x y a b = class_kinds k p x y a b
  classes_kinds (k ∷ ks) (suc c) p x y a b = classes_kinds ks c p x y a b

  kinds_agree : (c p : ℕ) → KindsAgree (option_and_then (λ (k : ClassNames). slice_get k.ports p) (slice_get (classes_of m) c)) (slice_get (class_plan (plan_of m) c).ports p)
  unfolding classes_of plan_of
  kinds_agree c p = classes_kinds (actors m) c p

module _ (m : ModelTree) (t : Tables) (keeps : first_broken all_rules m ≡ None) (w : IsWiringOf m t) (flawless : HasNoFault m) where
  -- the port of a slot by its name
  pub port_is : (s p : ℕ) (x : Slot) → slice_get (slots_in m) s ≡ Some x → port_at t s p ≡ option_and_then (λ (k : ClassNames). slice_get k.ports p) (slice_get (classes_of m) x.class)
  unfolding port_at class_of
  port_is s p x e =
      ap (λ (o : Option Slot). option_and_then (λ (k : ClassNames). slice_get k.ports p) (option_and_then (λ (z : Slot). class_at t z.class) o)) (slot_is m t keeps w flawless s x e)
      ∙ ap (λ cs. option_and_then (λ (k : ClassNames). slice_get k.ports p) (slice_get cs x.class)) w.classes

  by_place : (s p k : ℕ) (h : IsPlace m t keeps w flawless s p k) → is_imported_slot t s ≡ true → IsNoService h.port.kind
  by_place s p k h imported =
      no_service (is_imported h.x.kind) h.port.kind h.port.places _ _ _ k (sym (imported_is m t keeps w flawless s h.x h.of.slot) ∙ imported) h.below

  -- no service point of an imported slot is joined
  pub service_free : (s p k : ℕ) → is_imported_slot t s ≡ true → is_joined (joined_at t s p k) ≡ true → (is_sap t s p ≡ false) × (is_spp t s p ≡ false)
  unfolding is_sap is_spp
  service_free s p k imported joined = at_place (joined_place m t keeps w flawless s p k joined)
    where
      at_place : IsPlace m t keeps w flawless s p k
          → (option_map_or (λ (x : PortNames). is_sap_kind x.kind) (port_at t s p) false ≡ false) × (option_map_or (λ (x : PortNames). is_spp_kind x.kind) (port_at t s p) false ≡ false)
      at_place h = go (port_at t s p) refl
        where
          go : (o : Option PortNames) → port_at t s p ≡ o
              → (option_map_or (λ (x : PortNames). is_sap_kind x.kind) o false ≡ false) × (option_map_or (λ (x : PortNames). is_spp_kind x.kind) o false ≡ false)
          go None e = (refl, refl)
          go (Some x) e =
              let same : x.kind ≡ h.port.kind = kinds_agree m h.x.class p x h.port (sym (port_is s p h.x h.of.slot) ∙ e) h.of.named in
              let free = by_place s p k h imported in
              (ap is_sap_kind same ∙ free.0, ap is_spp_kind same ∙ free.1)
