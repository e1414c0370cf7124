-- How many places ports have in the wiring of a model.
-- `frame` has one at each slot. And a place of an imported slot that is joined to something is a place of each slot of
-- the class, of each actor that may be imported there: its port is an end port, with as many places at each slot.
use Rattle.std.proofs.Common.{◌≡◌, ◌∙◌, ℕ, zero, suc, ◌+◌, ◌<◌, Bool, true, false, List, [], ◌∷◌, map, length, Option, Some, None, slice_get, slice_index, slice_index_or, option_and_then, refl, sym, ap, subst, arith}
use Rattle.std.specs.Option.{option_map_or}
use Rattle.std.proofs.lemmas.List.{length-map}
use Rattle.std.proofs.lemmas.Option.{same_Some}
use Rattle.room_kinds.specs.declared.structure.PortKind.{PortKind}
use Rattle.room_kinds.specs.declared.structure.PortKind.TheVariants as ports
use Rattle.room_kinds.specs.Structure.{is_imported}
use Rattle.room_ast.specs.Trees.{ModelTree, ActorTree}
use Rattle.room_ast.specs.declared.model_parts.entries.PortEntry.{PortEntry}
use Rattle.room_ast.specs.model_parts.Classes.{actors, actor_names, protocol_names}
use Rattle.room_ast.specs.model_parts.Ports.{structure_of, frame_entry, ports_in as entries_in}
use Rattle.room_wiring.specs.declared.names.ClassNames.{ClassNames}
use Rattle.room_wiring.specs.declared.names.PortNames.{PortNames}
use Rattle.room_wiring.specs.declared.slot.Slot.{Slot}
use Rattle.room_wiring.specs.declared.tables.PlaceSpan.{PlaceSpan}
use Rattle.room_wiring.specs.declared.tables.Tables.{Tables}
use Rattle.room_wiring.specs.Places.{port_count, span_at, place_count}
use Rattle.room_wiring.specs.Slots.{slot_at, class_at, class_of, port_at}
use Rattle.check_tables.specs.class_tables.Containers.{actor_container, tables_of}
use Rattle.structure_check.specs.Rules.{first_broken}
use Rattle.structure_check.specs.List.{all_rules}
use Rattle.wiring_plan.specs.structure_plan.Parts.{port_plan}
use Rattle.wiring_plan.specs.structure_plan.Plans.{actor_plan, plan_of}
use Rattle.wiring_plan.specs.wiring_classes.Parts.{named, port_names_of}
use Rattle.wiring_plan.specs.wiring_classes.Classes.{labelled_signals, ports_in, class_names, classes_of}
use Rattle.wiring_plan.specs.declared.structure_plan.plan.ClassPlan.{ClassPlan}
use Rattle.wiring_plan.specs.declared.structure_plan.plan.PlacesPlan.{PlacesPlan}
use Rattle.wiring_plan.specs.declared.structure_plan.plan.PortPlan.{PortPlan}
use Rattle.wiring_plan.specs.declared.structure_plan.plan.StructurePlan.{StructurePlan}
use Rattle.wiring_slots.specs.model_slots.Answers.{slots_in}
use Rattle.wiring_places.specs.declared.place_rules.place.LayerJoin.{LayerJoin}
use Rattle.wiring_places.specs.place_rules.Parts.{class_plan, no_class}
use Rattle.wiring_places.specs.place_rules.Counts.{place_count as count_of_port, first_ports_from}
use Rattle.wiring_places.specs.place_rules.Layers.{layer_joins}
use Rattle.wiring_joins.specs.joined_places.Wired.{counts_in, spans_in}
use Rattle.wiring_joins.proofs.place_faces.Rows.{IsPort, own_count, span_is}
use Rattle.binding_expand.specs.Faults.{HasNoFault}
use Rattle.binding_expand.specs.Wirings.{IsWiringOf}
use Rattle.actor_duties.specs.Words.{class_number, is_imported as is_imported_slot, is_joined, joined_at}
use Rattle.law_models.proofs.settled_models.Joins.{IsPlace as JoinedPlace, slot_is, imported_is, joined_place}
use Rattle.law_models.proofs.settled_models.Wired.{wiring_consistent}
use Rattle.law_definitions.specs.Imported.{HasDeclaredPlaces, FitsImport, ImportedSlotsHaveEndPorts}

-- what is so of the counts of a wiring: `frame` has a place, and a place of an imported slot that is joined is one of each
-- slot of its class
pub record CountsPlaces (t : Tables) : Type 0 where
  pub frame : (s : ℕ) → s < length t.slots → 0 < place_count t s 0
  pub lent : (i h p k : ℕ) → is_imported_slot t i ≡ true → class_number t h ≡ class_number t i → p < port_count t i → is_joined (joined_at t i p k) ≡ true
      → k < place_count t h p

-- ---- ports by name and by structure

-- a port by its name has the kind that it has by its structure
abbrev KindsAgree : Option PortNames → Option PortPlan → Type 0
KindsAgree o p = (x : PortNames) (y : PortPlan) → o ≡ Some x → p ≡ Some y → x.kind ≡ y.kind

named_kinds : (make : List ℕ → PortEntry → PortNames) → ((name : List ℕ) (e : PortEntry) → (make name e).kind ≡ e.kind) → (ns : List (List ℕ)) (es : List PortEntry) (p : ℕ)
    → KindsAgree (slice_get (named make ns es) p) (slice_get (map port_plan es) p)
named_kinds make same [] es p x y a b = absurd cc
named_kinds make same (n ∷ ns) [] p x y a b = absurd cc
named_kinds make same (n ∷ ns) (e ∷ es) zero x y a b =
    ap (λ (z : PortNames). z.kind) (sym (same_Some (make n e) x a)) ∙ same n e ∙ ap (λ (z : PortPlan). z.kind) (same_Some (port_plan e) y b)
named_kinds make same (n ∷ ns) (e ∷ es) (suc p) x y a b = named_kinds make same ns es p x y a b

module _ (m : ModelTree) where
  abbrev planned : ActorTree → ClassPlan
  planned a = actor_plan (tables_of m).actors (actor_container (protocol_names m) (actor_names m) a) (structure_of a)

  class_kinds : (a : ActorTree) (p : ℕ) → KindsAgree (slice_get (class_names m a).ports p) (slice_get (planned a).ports p)
  unfolding class_names ports_in
  class_kinds a p =
      let c = actor_container (protocol_names m) (actor_names m) a in
      named_kinds (port_names_of (protocol_names m) (labelled_signals m)) (λ name e. refl) c.port_names c.ports p

  classes_kinds : (xs : List ActorTree) (c p : ℕ)
      → KindsAgree (option_and_then (λ (k : ClassNames). slice_get k.ports p) (slice_get (map (class_names m) xs) c)) (slice_get (slice_index_or (map planned xs) c no_class).ports p)
  classes_kinds [] c p x y a b = absurd cc
  classes_kinds (k ∷ ks) zero p x y a b = class_kinds k p x y a b
  classes_kinds (k ∷ ks) (suc c) p x y a b = classes_kinds ks c p x y a b

  kinds_agree : (c p : ℕ) → KindsAgree (option_and_then (λ (k : ClassNames). slice_get k.ports p) (slice_get (classes_of m) c)) (slice_get (class_plan (plan_of m) c).ports p)
  unfolding classes_of plan_of
  kinds_agree c p = classes_kinds (actors m) c p

  -- the first port of each class is `frame`
  frame_among : (xs : List ActorTree) (c : ℕ) → c < length xs → slice_get (slice_index_or (map planned xs) c no_class).ports 0 ≡ Some (port_plan frame_entry)
  unfolding entries_in
  frame_among [] c low = absurd (omega (arith, low))
  frame_among (a ∷ xs) zero low = refl
  frame_among (a ∷ xs) (suc c) low = frame_among xs c (omega (arith, low))

  frame_first : (c : ℕ) → c < length (actors m) → slice_get (class_plan (plan_of m) c).ports 0 ≡ Some (port_plan frame_entry)
  unfolding plan_of
  frame_first c low = frame_among (actors m) c low

  as_many_classes : length (classes_of m) ≡ length (actors m)
  unfolding classes_of
  as_many_classes = length-map (actors m) (class_names m)

-- ---- counts

one_place : 0 < 1
one_place = omega arith

-- a port that is no end port has, at an imported slot, no place that it lacks at another slot
no_more : (imported here : Bool) (kind : PortKind) (places : PlacesPlan) (outside inside served outside_here inside_here served_here k : ℕ) → imported ≡ true
    → (kind ≡ ports.End → k < count_of_port here kind places outside_here inside_here served_here)
    → k < count_of_port imported kind places outside inside served → k < count_of_port here kind places outside_here inside_here served_here
no_more imported here ports.Frame places outside inside served outside_here inside_here served_here k is end low = low
no_more imported here ports.Relay places outside inside served outside_here inside_here served_here k is end low = low
no_more imported here ports.End places outside inside served outside_here inside_here served_here k is end low = end refl
no_more true here ports.Internal places outside inside served outside_here inside_here served_here k is end low = absurd (omega (arith, low))
no_more false here ports.Internal places outside inside served outside_here inside_here served_here k is end low = absurd cc
no_more true here ports.Sap places outside inside served outside_here inside_here served_here k is end low = absurd (omega (arith, low))
no_more false here ports.Sap places outside inside served outside_here inside_here served_here k is end low = absurd cc
no_more true here ports.Spp places outside inside served outside_here inside_here served_here k is end low = absurd (omega (arith, low))
no_more false here ports.Spp places outside inside served outside_here inside_here served_here k is end low = absurd cc

there : {X : Type 0} (xs : List X) (k : ℕ) → k < length xs → (x : X) × (slice_get xs k ≡ Some x)
there [] k low = absurd (omega (arith, low))
there (x ∷ xs) zero low = (x, refl)
there (x ∷ xs) (suc k) low = there xs k (omega (arith, low))

module _ (law : ImportedSlotsHaveEndPorts) (m : ModelTree) (t : Tables) (keeps : first_broken all_rules m ≡ None) (w : IsWiringOf m t) (flawless : HasNoFault m) where
  abbrev plan : StructurePlan
  plan = plan_of m

  abbrev slots : List Slot
  slots = slots_in m

  abbrev joins : List LayerJoin
  joins = layer_joins plan slots

  listed : (s : ℕ) (x : Slot) → slot_at t s ≡ Some x → slice_get slots s ≡ Some x
  listed s x e = ap (λ l. slice_get l s) (sym w.slots) ∙ e

  count_is : (s p : ℕ) (x : Slot) (port : PortPlan) → IsPort plan slots s p x port → place_count t s p ≡ own_count plan slots joins s x p port
  unfolding place_count span_at spans_in counts_in
  count_is s p x port of =
      ap (λ fs. (slice_index_or t.ports (slice_index fs s + p) (record { first = 0; count = 0 })).count) w.first_ports
      ∙ ap (λ (ss : List PlaceSpan). (slice_index_or ss (slice_index (first_ports_from plan 0 slots) s + p) (record { first = 0; count = 0 })).count) w.ports
      ∙ (span_is plan slots joins s x p port of).1

  -- ---- `frame`

  frame_counted : (s : ℕ) → s < length t.slots → 0 < place_count t s 0
  frame_counted s low =
      let x = there t.slots s low in
      let known = (wiring_consistent m t w keeps flawless).classes_known s x.0 x.1 in
      let many = ap length w.classes in
      let actors_too = as_many_classes m in
      let of : IsPort plan slots s 0 x.0 (port_plan frame_entry) =
      record { slot = listed s x.0 x.1; named = frame_first m x.0.class (omega (arith, known, many, actors_too)) } in
      subst (λ n. 0 < n) (sym (count_is s 0 x.0 (port_plan frame_entry) of)) one_place

  -- ---- imported slots

  port_is : (s p : ℕ) (x : Slot) → slot_at t s ≡ Some x → port_at t s p ≡ option_and_then (λ (k : ClassNames). slice_get k.ports p) (slice_get (classes_of m) x.class)
  unfolding port_at class_of
  port_is s p x e =
      ap (λ (o : Option Slot). option_and_then (λ (k : ClassNames). slice_get k.ports p) (option_and_then (λ (z : Slot). class_at t z.class) o)) e
      ∙ ap (λ cs. option_and_then (λ (k : ClassNames). slice_get k.ports p) (slice_get cs x.class)) w.classes

  port_there : (s p : ℕ) → p < port_count t s → (x : PortNames) × (port_at t s p ≡ Some x)
  unfolding port_at port_count
  port_there s p low = go (class_of t s) low
    where
      go : (o : Option ClassNames) → p < option_map_or (λ (c : ClassNames). length c.ports) o 0
          → (x : PortNames) × (option_and_then (λ (c : ClassNames). slice_get c.ports p) o ≡ Some x)
      go None l = absurd (omega (arith, l))
      go (Some c) l = there c.ports p l

  module _ (i h p k : ℕ) (imported : is_imported_slot t i ≡ true) (at : JoinedPlace m t keeps w flawless i p k) (low : p < port_count t i) (y : Slot) (stands : slot_at t h ≡ Some y)
      (same : y.class ≡ at.x.class) where
    holder : slot_at t i ≡ Some at.x
    holder = slot_is m t keeps w flawless i at.x at.of.slot

    imported_kind : is_imported at.x.kind ≡ true
    imported_kind = sym (imported_is m t keeps w flawless i at.x at.of.slot) ∙ imported

    here : IsPort plan slots h p y at.port
    here = record { slot = listed h y stands; named = ap (λ (n : ℕ). slice_get (class_plan plan n).ports p) same ∙ at.of.named }

    -- an end port has as many places at each slot of the class
    end_port : at.port.kind ≡ ports.End → k < own_count plan slots joins h y p at.port
    end_port kind =
        let named = port_there i p low in
        let agree : named.0.kind ≡ at.port.kind = kinds_agree m at.x.class p named.0 at.port (sym (port_is i p at.x holder) ∙ named.1) at.of.named in
        let d : HasDeclaredPlaces m t at.x.class p = subst (FitsImport m t i at.x.class p) (agree ∙ kind) (law m t keeps w i p at.x named.0 holder imported_kind named.1) in
        subst (λ (n : ℕ). k < n)
        (sym (count_is i p at.x at.port at.of) ∙ d.places i at.x holder refl ∙ sym (d.places h y stands same) ∙ count_is h p y at.port here) at.below

    counted_there : k < place_count t h p
    counted_there =
        subst (λ (n : ℕ). k < n) (sym (count_is h p y at.port here))
        (no_more (is_imported at.x.kind) (is_imported y.kind) at.port.kind at.port.places _ _ _ _ _ _ k imported_kind end_port at.below)

  -- a joined place of an imported slot is a place of each slot of its class
  lent_counted : (i h p k : ℕ) → is_imported_slot t i ≡ true → class_number t h ≡ class_number t i → p < port_count t i → is_joined (joined_at t i p k) ≡ true → k < place_count t h p
  lent_counted i h p k imported same low joined = go (slice_get t.slots h) refl same
    where
      at : JoinedPlace m t keeps w flawless i p k
      at = joined_place m t keeps w flawless i p k joined

      number : class_number t i ≡ Some at.x.class
      number = ap (λ (o : Option Slot). option_map_or (λ (x : Slot). Some x.class) o None) (slot_is m t keeps w flawless i at.x at.of.slot)

      go : (o : Option Slot) → slice_get t.slots h ≡ o → option_map_or (λ (x : Slot). Some x.class) o None ≡ class_number t i → k < place_count t h p
      go None e c = let never : None ≡ Some at.x.class = c ∙ number in absurd cc
      go (Some y) e c = counted_there i h p k imported at low y e (same_Some y.class at.x.class (c ∙ number))

  pub places_counted : CountsPlaces t
  places_counted = record { frame = frame_counted; lent = lent_counted }
