-- A layer connection that names a service provision point gives its service.
use Rattle.std.proofs.Common.{◌≡◌, ◌∙◌, ℕ, ◌≤◌, Bool, true, false, not, List, [], ◌∷◌, map, Option, Some, None, slice_get, position, option_and_then, option_map, filter_map, All, refl, sym, ap}
use Rattle.std.specs.Prelude.{◌&&◌}
use Rattle.std.specs.List.{list_all}
use Rattle.std.proofs.lemmas.Bool.{and_parts, not-true}
use Rattle.std.specs.Option.{option_map_or}
use Rattle.std.specs.List.{cons_option}
use Rattle.std.proofs.lemmas.Option.{same_Some, option_and_then_some, slice_get-map}
use Rattle.std.proofs.lemmas.List.Elements.{All-nil, All-cons}
use Rattle.name_tables.specs.name_numbers.Names.{same}
use Rattle.room_kinds.specs.declared.structure.PortKind.{PortKind}
use Rattle.room_kinds.specs.declared.structure.PortKind.TheVariants.{Frame, Relay, End, Internal, Sap, Spp}
use Rattle.room_ast.specs.Trees.{SubsystemItemTree, AReference, ABinding, ALayer, AThread, AMapping}
use Rattle.room_ast.specs.declared.actor.LayerConnection.{LayerConnection}
use Rattle.room_ast.specs.declared.actor.StructureItem.{StructureItem}
use Rattle.room_ast.specs.declared.actor.StructureItem.TheVariants as structures
use Rattle.room_ast.specs.model_parts.References.{is_replicated}
use Rattle.room_ast.specs.declared.model_parts.entries.PortEntry.{PortEntry}
use Rattle.room_ast.specs.declared.model_parts.entries.ReferenceEntry.{ReferenceEntry}
use Rattle.check_tables.specs.declared.class_tables.container.Container.{Container}
use Rattle.check_bindings.specs.binding_rules.Parts.{port_named, reference_named, class_of, port_behind as port_behind_reference}
use Rattle.check_bindings.specs.binding_rules.Layers.{is_spp, is_connectable, provides, layer_is_known}
use Rattle.check_bindings.specs.binding_rules.Rules.{item_passes, subsystem_item_passes}
use Rattle.room_kinds.specs.Structure.{is_imported}
use Rattle.wiring_places.specs.place_rules.Parts.{class_plan}
use Rattle.wiring_plan.specs.structure_plan.Parts.{number_of, port_plan, reference_plan, class_behind, port_behind, layer_to, layer_from, layer_plan}
use Rattle.wiring_plan.specs.structure_plan.Plans.{item_layer, subsystem_layer}
use Rattle.wiring_plan.specs.declared.structure_plan.plan.LayerPlan.{LayerPlan}
use Rattle.wiring_plan.specs.declared.structure_plan.plan.ClassPlan.{ClassPlan}
use Rattle.wiring_plan.specs.declared.structure_plan.plan.StructurePlan.{StructurePlan}
use Rattle.wiring_joins.specs.place_faces.SlotsOf.{GivesService}
use Rattle.binding_expand.proofs.plan_laws.Numbers.{class_is, number_kept}

is_service : (kind : PortKind) → is_spp kind ≡ true → kind ≡ Spp
is_service Frame h = absurd cc
is_service Relay h = absurd cc
is_service End h = absurd cc
is_service Internal h = absurd cc
is_service Sap h = absurd cc
is_service Spp h = refl

some_port : (o : Option PortEntry) → option_map_or (λ (p : PortEntry). is_spp p.kind) o false ≡ true → (q : PortEntry) × (o ≡ Some q) × (q.kind ≡ Spp)
some_port None h = absurd cc
some_port (Some q) h = (q, refl, is_service q.kind h)

pub mapped_some : {X Y : Type 0} (f : X → Y) (o : Option X) (y : Y) → option_map f o ≡ Some y → (x : X) × (o ≡ Some x) × (f x ≡ y)
mapped_some f None y e = absurd cc
mapped_some f (Some x) y e = (x, refl, same_Some (f x) y e)

-- what the numbers of a layer connection stand for
pub record NamesService (actors : List Container) (c : Container) (l : LayerConnection) (layer : LayerPlan) : Type 0 where
  pub e : ReferenceEntry
  pub k : Container
  pub i : ℕ
  pub provider : position (same l.provider) c.reference_names ≡ Some layer.provider
  pub entry : slice_get c.references layer.provider ≡ Some e
  pub number : e.class ≡ Some i
  pub behind : slice_get actors i ≡ Some k
  pub service : position (same l.service) k.port_names ≡ Some layer.service

module _ (actors : List Container) (c : Container) (l : LayerConnection) (layer : LayerPlan) where
  named_behind : (s : ℕ) (n : ℕ) (reference : ℕ) → position (same l.provider) c.reference_names ≡ Some n → (let p : LayerPlan = record { reference = reference; provider = n; service = s } in p) ≡ layer → port_behind actors c n l.service ≡ Some s → NamesService actors c l layer
  named_behind s n reference provider is e =
      let provider_is : n ≡ layer.provider = ap (λ (p : LayerPlan). p.provider) is in
      let service_is : s ≡ layer.service = ap (λ (p : LayerPlan). p.service) is in
      option_and_then_some (λ (k : Container). number_of k.port_names l.service) (class_behind actors c n) s e
      (λ k behind port. option_and_then_some (λ (e : ReferenceEntry). option_and_then (slice_get actors) e.class) (slice_get c.references n) k behind
      (λ entry at found. option_and_then_some (slice_get actors) entry.class k found
      (λ i number there. record {
        e = entry;
        k = k;
        i = i;
        provider = provider ∙ ap (λ m. Some m) provider_is;
        entry = ap (slice_get c.references) (sym provider_is) ∙ at;
        number = number;
        behind = there;
        service = number_kept k.port_names l.service s port ∙ ap (λ m. Some m) service_is;
      })))

  named_service : layer_plan actors c l ≡ Some layer → NamesService actors c l layer
  named_service e =
      option_and_then_some (layer_from actors c l) (number_of c.reference_names l.reference) layer e
      (λ reference at from. option_and_then_some (layer_to actors c l.service reference) (number_of c.reference_names l.provider) layer from
      (λ n number to.
      let port = mapped_some (λ s. let p : LayerPlan = record { reference = reference; provider = n; service = s } in p) (port_behind actors c n l.service) layer to in
      named_behind port.0 n reference (number_kept c.reference_names l.provider n number) port.2 port.1))

-- A structure made of these classes: the class of a number that one of them has has its ports.
abbrev pub HasPorts : List Container → StructurePlan → Type 0
HasPorts actors plan = (i : ℕ) (k : Container) → slice_get actors i ≡ Some k → (i ≤ 65535) × ((class_plan plan i).ports ≡ map port_plan k.ports)

module _ (actors : List Container) (plan : StructurePlan) (has : HasPorts actors plan) (c : Container) (class : ClassPlan) (references : class.references ≡ map reference_plan c.references) where
  gives : (l : LayerConnection) (layer : LayerPlan) → layer_is_known actors c l ≡ true → layer_plan actors c l ≡ Some layer → GivesService plan class layer
  gives l layer known e =
      let n = named_service actors c l layer e in
      let provided = (and_parts (option_map_or is_connectable (reference_named c l.reference) false) (option_map_or (provides actors l.service) (reference_named c l.provider) false) known).1 in
      let reference_is : reference_named c l.provider ≡ Some n.e = ap (λ o. option_and_then (slice_get c.references) o) n.provider ∙ n.entry in
      let provides_it : provides actors l.service n.e ≡ true = ap (λ o. option_map_or (provides actors l.service) o false) (sym reference_is) ∙ provided in
      let present = (and_parts (not (is_imported n.e.kind)) (not (is_replicated n.e)) (and_parts (not (is_imported n.e.kind) && not (is_replicated n.e)) (option_map_or (λ (p : PortEntry). is_spp p.kind) (port_behind_reference actors n.e l.service) false) provides_it).0).0 in
      let spp = (and_parts (not (is_imported n.e.kind) && not (is_replicated n.e)) (option_map_or (λ (p : PortEntry). is_spp p.kind) (port_behind_reference actors n.e l.service) false) provides_it).1 in
      let class_behind_is : class_of actors n.e ≡ Some n.k = ap (λ o. option_and_then (slice_get actors) o) n.number ∙ n.behind in
      let port_is : port_behind_reference actors n.e l.service ≡ slice_get n.k.ports layer.service = ap (λ o. option_and_then (λ (k : Container). port_named k l.service) o) class_behind_is ∙ ap (λ o. option_and_then (slice_get n.k.ports) o) n.service in
      let port = some_port (port_behind_reference actors n.e l.service) spp in
      let ports = has n.i n.k n.behind in
      let class_number : (reference_plan n.e).class ≡ n.i = class_is n.e.class n.i n.number ports.0 in
      let at : slice_get (class_plan plan (reference_plan n.e).class).ports layer.service ≡ Some (port_plan port.0) =
      ap (λ i. slice_get (class_plan plan i).ports layer.service) class_number ∙ ap (λ ps. slice_get ps layer.service) ports.1 ∙ slice_get-map port_plan n.k.ports layer.service ∙ ap (λ o. option_map port_plan o) (sym port_is ∙ port.1) in
      record {
        reference = reference_plan n.e;
        provider = ap (λ rs. slice_get rs layer.provider) references ∙ slice_get-map reference_plan c.references layer.provider ∙ ap (λ o. option_map reference_plan o) n.entry;
        present = not-true (is_imported n.e.kind) present;
        port = port_plan port.0;
        service = at;
        kind = port.2;
      }

  abbrev Gives : LayerPlan → Type 0
  Gives = GivesService plan class

  one_gives : (l : LayerConnection) (rest : List LayerPlan) → layer_is_known actors c l ≡ true → All Gives rest → All Gives (cons_option (layer_plan actors c l) rest)
  one_gives l rest known more = pick (layer_plan actors c l) refl
    where
      pick : (o : Option LayerPlan) → layer_plan actors c l ≡ o → All Gives (cons_option o rest)
      pick None e = more
      pick (Some layer) e = All-cons Gives layer rest (gives l layer known e) more

  abbrev passes : StructureItem → Bool
  passes = item_passes (λ b. true) (layer_is_known actors c)

  pub items_give : (is : List StructureItem) → list_all passes is ≡ true → All Gives (filter_map (item_layer actors c) is)
  items_give [] h = All-nil Gives
  items_give (structures.Usercode u ∷ is) h = items_give is h
  items_give (structures.External e ∷ is) h = items_give is h
  items_give (structures.Port p ∷ is) h = items_give is h
  items_give (structures.Access s ∷ is) h = items_give is h
  items_give (structures.Implementation i ∷ is) h = items_give is h
  items_give (structures.Attribute a ∷ is) h = items_give is h
  items_give (structures.Reference r ∷ is) h = items_give is h
  items_give (structures.Binding b ∷ is) h = items_give is h
  items_give (structures.Layer l ∷ is) h = one_gives l (filter_map (item_layer actors c) is) (and_parts (layer_is_known actors c l) (list_all passes is) h).0 (items_give is (and_parts (layer_is_known actors c l) (list_all passes is) h).1)

  abbrev subsystem_passes : SubsystemItemTree → Bool
  subsystem_passes = subsystem_item_passes (λ b. true) (layer_is_known actors c)

  pub subsystem_items_give : (is : List SubsystemItemTree) → list_all subsystem_passes is ≡ true → All Gives (filter_map (subsystem_layer actors c) is)
  subsystem_items_give [] h = All-nil Gives
  subsystem_items_give (AReference r ∷ is) h = subsystem_items_give is h
  subsystem_items_give (ABinding b ∷ is) h = subsystem_items_give is h
  subsystem_items_give (ALayer l ∷ is) h = one_gives l (filter_map (subsystem_layer actors c) is) (and_parts (layer_is_known actors c l) (list_all subsystem_passes is) h).0 (subsystem_items_give is (and_parts (layer_is_known actors c l) (list_all subsystem_passes is) h).1)
  subsystem_items_give (AThread t ∷ is) h = subsystem_items_give is h
  subsystem_items_give (AMapping m ∷ is) h = subsystem_items_give is h
