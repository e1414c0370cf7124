-- The ports of imported slots, and how many places they have.
use Rattle.std.proofs.Common.{◌≡◌, ◌∙◌, ℕ, zero, suc, ◌+◌, Bool, true, false, cond, not, List, [], ◌∷◌, map, Option, Some, None, slice_get, slice_index, slice_index_or, option_map, option_and_then, refl, sym, ap, subst, arith}
use Rattle.std.specs.List.{list_all}
use Rattle.std.proofs.lemmas.Bool.{and_parts}
use Rattle.std.proofs.lemmas.Bool.Decides.{nat_tests}
use Rattle.std.proofs.lemmas.Option.{same_Some, slice_get-map}
use Rattle.room_kinds.specs.Structure.{is_imported}
use Rattle.room_kinds.specs.declared.structure.PortKind.{PortKind}
use Rattle.room_kinds.specs.declared.structure.PortKind.TheVariants as ports
use Rattle.room_ast.specs.Trees.{ModelTree, ActorTree}
use Rattle.room_ast.specs.declared.actor.Places.{Places}
use Rattle.room_ast.specs.declared.actor.Places.TheVariants as places
use Rattle.room_ast.specs.declared.model_parts.entries.PortEntry.{PortEntry}
use Rattle.room_ast.specs.declared.model_parts.entries.ReferenceEntry.{ReferenceEntry}
use Rattle.room_ast.specs.model_parts.Classes.{actors, actor_names, protocol_names}
use Rattle.room_ast.specs.model_parts.Ports.{structure_of}
use Rattle.room_wiring.specs.declared.names.ClassNames.{ClassNames}
use Rattle.room_wiring.specs.declared.names.PortNames.{PortNames}
use Rattle.room_wiring.specs.declared.slot.Slot.{Slot}
use Rattle.room_wiring.specs.declared.tables.Tables.{Tables}
use Rattle.room_wiring.specs.declared.tables.PlaceSpan.{PlaceSpan}
use Rattle.room_wiring.specs.Slots.{slot_at, class_at, class_of, port_at}
use Rattle.room_wiring.specs.Places.{span_at, place_count}
use Rattle.check_tables.specs.class_tables.Containers.{actor_container, actor_containers, tables_with, tables_of, class_names as names_of_classes}
use Rattle.check_tables.specs.declared.class_tables.container.Container.{Container}
use Rattle.check_bindings.specs.structure_rules.AnyPlaces.{is_any}
use Rattle.check_bindings.specs.structure_rules.Imported.{fits_import}
use Rattle.check_bindings.specs.structure_rules.Replication.{is_in_range, places_in_range, count_in_range, class_in_range, replicates_in_range}
use Rattle.structure_check.specs.Rules.{first_broken}
use Rattle.structure_check.specs.List.{all_rules}
use Rattle.wiring_plan.specs.structure_plan.Parts.{count32, places_plan, port_plan}
use Rattle.wiring_plan.specs.structure_plan.Plans.{actor_plan, plan_of}
use Rattle.wiring_plan.specs.wiring_classes.Parts.{named, port_names_of}
use Rattle.wiring_plan.specs.wiring_classes.Classes.{labelled_signals, ports_in, class_names, classes_of}
use Rattle.wiring_plan.specs.declared.structure_plan.plan.ClassPlan.{ClassPlan}
use Rattle.wiring_plan.specs.declared.structure_plan.plan.PortPlan.{PortPlan}
use Rattle.wiring_plan.specs.declared.structure_plan.plan.StructurePlan.{StructurePlan}
use Rattle.wiring_slots.specs.model_slots.Answers.{slots_in}
use Rattle.wiring_places.specs.declared.place_rules.place.LayerJoin.{LayerJoin}
use Rattle.wiring_places.specs.place_rules.Parts.{no_class, class_plan, container_class}
use Rattle.wiring_places.specs.place_rules.Stretches.{all_taken}
use Rattle.wiring_places.specs.place_rules.Counts.{count_of, first_ports_from}
use Rattle.wiring_places.specs.place_rules.Layers.{layer_joins}
use Rattle.wiring_joins.specs.joined_places.Wired.{counts_in, spans_in}
use Rattle.wiring_joins.proofs.place_faces.Rows.{IsPort, own_count, span_is}
use Rattle.binding_expand.specs.Wirings.{IsWiringOf}
use Rattle.law_definitions.specs.Imported.{declared_places, declared_at, HasDeclaredPlaces, FitsImport, ImportedSlotsHaveEndPorts}
use Rattle.law_definitions.proofs.Importable.{model_rules, slot_fits}

-- ---- lists

holds_at : {X : Type 0} (p : X → Bool) (xs : List X) (i : ℕ) (x : X) → list_all p xs ≡ true → slice_get xs i ≡ Some x → p x ≡ true
holds_at p [] i x all e = absurd cc
holds_at p (y ∷ ys) zero x all e = subst (λ z. p z ≡ true) (same_Some y x e) (and_parts (p y) (list_all p ys) all).0
holds_at p (y ∷ ys) (suc i) x all e = holds_at p ys i x (and_parts (p y) (list_all p ys) all).1 e

-- ---- ports as declared

-- a port with another kind and other brackets
abbrev with_kind : PortEntry → PortKind → Option Places → PortEntry
with_kind e k o = record { kind = k; conjugated = e.conjugated; places = o; protocol = e.protocol }

kind_fits : (e : PortEntry) (k : PortKind) → e.kind ≡ k → fits_import e ≡ true → fits_import (with_kind e k e.places) ≡ true
kind_fits e k same fits = ap (λ z. fits_import (with_kind e z e.places)) (sym same) ∙ fits

-- a number in range is kept as it is
in_range : (n : ℕ) → is_in_range n ≡ true → count32 n ≡ n
in_range n h = grind (arith, nat_tests)

nothing_there : (imported : Bool) (n : ℕ) → imported ≡ true → cond imported 0 n ≡ 0
nothing_there true n i = refl
nothing_there false n i = absurd cc

-- ---- a port by name and by structure

named_entry : (make : List ℕ → PortEntry → PortNames) → ((name : List ℕ) (e : PortEntry) → (make name e).kind ≡ e.kind) → (ns : List (List ℕ)) (es : List PortEntry) (p : ℕ) (y : PortNames)
    → slice_get (named make ns es) p ≡ Some y → (e : PortEntry) × (slice_get es p ≡ Some e) × (y.kind ≡ e.kind)
named_entry make same [] es p y a = absurd cc
named_entry make same (n ∷ ns) [] p y a = absurd cc
named_entry make same (n ∷ ns) (e ∷ es) zero y a = (e, refl, ap (λ (z : PortNames). z.kind) (sym (same_Some (make n e) y a)) ∙ same n e)
named_entry make same (n ∷ ns) (e ∷ es) (suc p) y a = named_entry make same ns es p y a

module _ (m : ModelTree) where
  abbrev table : ActorTree → Container
  table a = actor_container (protocol_names m) (actor_names m) a

  abbrev planned : ActorTree → ClassPlan
  planned a = actor_plan (tables_of m).actors (table a) (structure_of a)

  -- port p of the class of a number, among these classes, as it is declared
  record IsDeclared (xs : List ActorTree) (c p : ℕ) (y : PortNames) : Type 0 where
    container : Container
    entry : PortEntry
    class : slice_get (map table xs) c ≡ Some container
    port : slice_get container.ports p ≡ Some entry
    kind : y.kind ≡ entry.kind
    plan : slice_get (slice_index_or (map planned xs) c no_class).ports p ≡ Some (port_plan entry)

  class_entry : (a : ActorTree) (p : ℕ) (y : PortNames) → slice_get (class_names m a).ports p ≡ Some y → (e : PortEntry) × (slice_get (table a).ports p ≡ Some e) × (y.kind ≡ e.kind)
  unfolding class_names ports_in
  class_entry a p y e = named_entry (port_names_of (protocol_names m) (labelled_signals m)) (λ name x. refl) (table a).port_names (table a).ports p y e

  declared_among : (xs : List ActorTree) (c p : ℕ) (y : PortNames) → option_and_then (λ (k : ClassNames). slice_get k.ports p) (slice_get (map (class_names m) xs) c) ≡ Some y → IsDeclared xs c p y
  declared_among [] c p y e = absurd cc
  declared_among (a ∷ xs) zero p y e =
      let found = class_entry a p y e in
      record { container = table a; entry = found.0; class = refl; port = found.1; kind = found.2; plan = slice_get-map port_plan (table a).ports p ∙ ap (option_map port_plan) found.1 }
  declared_among (a ∷ xs) (suc c) p y e =
      let more = declared_among xs c p y e in
      record { container = more.container; entry = more.entry; class = more.class; port = more.port; kind = more.kind; plan = more.plan }

  tables_are : (tables_of m).actors ≡ map table (actors m)
  unfolding tables_with names_of_classes actor_containers
  tables_are = refl

-- ---- the ports of imported slots

module _ (m : ModelTree) (t : Tables) (keeps : first_broken all_rules m ≡ None) (w : IsWiringOf m t) where
  abbrev whole : StructurePlan
  whole = plan_of m

  abbrev slots : List Slot
  slots = slots_in m

  abbrev joins : List LayerJoin
  joins = layer_joins whole slots

  listed : (s : ℕ) (x : Slot) → slot_at t s ≡ Some x → slice_get slots s ≡ Some x
  listed s x e = ap (λ l. slice_get l s) (sym w.slots) ∙ e

  port_is : (s p : ℕ) (x : Slot) → slot_at t s ≡ Some x → port_at t s p ≡ option_and_then (λ (k : ClassNames). slice_get k.ports p) (slice_get (map (class_names m) (actors m)) x.class)
  unfolding port_at class_of classes_of
  port_is s p x e =
      ap (λ (o : Option Slot). option_and_then (λ (k : ClassNames). slice_get k.ports p) (option_and_then (λ (z : Slot). class_at t z.class) o)) e
      ∙ ap (λ cs. option_and_then (λ (k : ClassNames). slice_get k.ports p) (slice_get cs x.class)) w.classes

  count_is : (s p : ℕ) (x : Slot) (port : PortPlan) → IsPort whole slots s p x port → place_count t s p ≡ own_count whole slots joins s x p port
  unfolding place_count span_at spans_in counts_in
  count_is s p x port of =
      ap (λ fs. (slice_index_or t.ports (slice_index fs s + p) (record { first = 0; count = 0 })).count) w.first_ports
      ∙ ap (λ (ss : List PlaceSpan). (slice_index_or ss (slice_index (first_ports_from whole 0 slots) s + p) (record { first = 0; count = 0 })).count) w.ports
      ∙ (span_is whole slots joins s x p port of).1

  module _ (class p : ℕ) (port : PortNames) (d : IsDeclared m (actors m) class p port) where
    -- the port that is declared, with another kind and other brackets, would have so many places
    abbrev counted : ℕ → Slot → PortKind → Option Places → ℕ
    counted s x k o = own_count whole slots joins s x p (port_plan (with_kind d.entry k o))

    of_plan : (s : ℕ) (x : Slot) → slot_at t s ≡ Some x → x.class ≡ class → IsPort whole slots s p x (port_plan d.entry)
    unfolding plan_of
    of_plan s x e same = record { slot = listed s x e; named = ap (λ n. slice_get (class_plan whole n).ports p) same ∙ d.plan }

    counted_as : (s : ℕ) (x : Slot) (k : PortKind) (o : Option Places) → slot_at t s ≡ Some x → x.class ≡ class → d.entry.kind ≡ k → d.entry.places ≡ o → place_count t s p ≡ counted s x k o
    counted_as s x k o e same kind brackets =
        count_is s p x (port_plan d.entry) (of_plan s x e same)
        ∙ ap (λ z. counted s x z d.entry.places) kind
        ∙ ap (λ z. counted s x k z) brackets

    class_is : slice_get (tables_of m).actors class ≡ Some d.container
    class_is = ap (λ cs. slice_get cs class) (tables_are m) ∙ d.class

    declared_is : declared_at m class p ≡ declared_places d.entry.places
    declared_is =
        ap (option_and_then (λ (c : Container). option_and_then (λ (e : PortEntry). declared_places e.places) (slice_get c.ports p))) class_is
        ∙ ap (option_and_then (λ (e : PortEntry). declared_places e.places)) d.port

    few_places : places_in_range d.entry.places ≡ true
    unfolding replicates_in_range
    few_places =
        let ranges = and_parts (list_all class_in_range (tables_of m).actors) (list_all class_in_range (tables_of m).subsystems) (model_rules m keeps).0 in
        let here : class_in_range d.container ≡ true = holds_at class_in_range (tables_of m).actors class d.container ranges.0 class_is in
        let those = and_parts (list_all (λ (e : PortEntry). places_in_range e.places) d.container.ports) (list_all (λ (r : ReferenceEntry). count_in_range r.count) d.container.references) here in
        holds_at (λ (e : PortEntry). places_in_range e.places) d.container.ports p d.entry those.0 d.port

    -- an end port has the number of places that it declares, at each slot of the class
    end_places : d.entry.kind ≡ ports.End → (o : Option Places) → d.entry.places ≡ o → not (is_any o) ≡ true → places_in_range o ≡ true → HasDeclaredPlaces m t class p
    end_places kind None brackets fits few =
        record { number = 1; declared = declared_is ∙ ap declared_places brackets; places = λ s x e same. counted_as s x ports.End None e same kind brackets }
    end_places kind (Some places.Any) brackets fits few = absurd cc
    end_places kind (Some (places.Number n)) brackets fits few =
        record {
          number = n;
          declared = declared_is ∙ ap declared_places brackets;
          places = λ s x e same. counted_as s x ports.End (Some (places.Number n)) e same kind brackets ∙ in_range n few;
        }

    by_kind : (s : ℕ) (x : Slot) → slot_at t s ≡ Some x → x.class ≡ class → is_imported x.kind ≡ true → fits_import d.entry ≡ true → (k : PortKind) → d.entry.kind ≡ k → FitsImport m t s class p k
    by_kind s x e same imported fits ports.Frame kind = counted_as s x ports.Frame d.entry.places e same kind refl
    by_kind s x e same imported fits ports.Relay kind = let never = kind_fits d.entry ports.Relay kind fits in absurd cc
    by_kind s x e same imported fits ports.End kind = end_places kind d.entry.places refl (kind_fits d.entry ports.End kind fits) few_places
    by_kind s x e same imported fits ports.Internal kind =
        counted_as s x ports.Internal d.entry.places e same kind refl
        ∙ nothing_there (is_imported x.kind) (count_of (places_plan d.entry.places) (all_taken whole (container_class whole slots (s + 1)) p)) imported
    by_kind s x e same imported fits ports.Sap kind = counted_as s x ports.Sap d.entry.places e same kind refl ∙ nothing_there (is_imported x.kind) 1 imported
    by_kind s x e same imported fits ports.Spp kind = let never = kind_fits d.entry ports.Spp kind fits in absurd cc

  ports_fit : (s p : ℕ) (x : Slot) (port : PortNames) → slot_at t s ≡ Some x → is_imported x.kind ≡ true → port_at t s p ≡ Some port → FitsImport m t s x.class p port.kind
  ports_fit s p x port at imported named_so =
      let d = declared_among m (actors m) x.class p port (sym (port_is s p x at) ∙ named_so) in
      let can = slot_fits m keeps s x (listed s x at) imported d.container (class_is x.class p port d) in
      let fits = holds_at fits_import d.container.ports p d.entry can d.port in
      subst (λ k. FitsImport m t s x.class p k) (sym d.kind) (by_kind x.class p port d s x at refl imported fits d.entry.kind refl)

pub imported_fit : ImportedSlotsHaveEndPorts
imported_fit m t keeps w = ports_fit m t keeps w
