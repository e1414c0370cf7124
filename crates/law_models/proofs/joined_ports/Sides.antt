-- A face of a place that a side of a binding names is one of a port of the protocol that the rules on bindings see there.
use Rattle.std.proofs.Common.{◌≡◌, ◌∙◌, ◌⊎◌, inl, inr, ℕ, ◌+◌, Bool, true, false, not, List, length, map, Option, Some, option_map, option_and_then, slice_get, refl, sym, ap, arith}
use Rattle.std.proofs.lemmas.Option.{same_Some, option_and_then_some, slice_get-map, slice_get_within}
use Rattle.std.proofs.lemmas.List.{length-map}
use Rattle.room_kinds.specs.declared.structure.PortKind.TheVariants as kinds
use Rattle.room_ast.specs.Trees.{ModelTree}
use Rattle.room_ast.specs.declared.actor.Side.{Side}
use Rattle.room_ast.specs.declared.actor.Side.TheVariants as sides
use Rattle.room_ast.specs.declared.model_parts.entries.PortEntry.{PortEntry}
use Rattle.room_ast.specs.declared.model_parts.entries.ReferenceEntry.{ReferenceEntry}
use Rattle.room_ast.specs.model_parts.Classes.{actors}
use Rattle.room_ast.specs.model_parts.References.{is_replicated}
use Rattle.room_wiring.specs.declared.slot.Slot.{Slot}
use Rattle.check_mappings.specs.count_rules.Counts.{has_few_parts}
use Rattle.check_scopes.specs.class_scopes.Signals.{is_frame}
use Rattle.check_bindings.specs.binding_rules.Ends.{is_any, own_end, inner_end, end_of}
use Rattle.check_bindings.specs.binding_rules.Parts.{port_named, reference_named, class_of, port_behind as port_behind_reference}
use Rattle.check_tables.specs.class_tables.Containers.{tables_of}
use Rattle.check_tables.specs.declared.class_tables.container.Container.{Container}
use Rattle.wiring_plan.specs.structure_plan.Parts.{number_of, reference_plan, class_behind, port_behind, inner_side, side_plan}
use Rattle.wiring_plan.specs.structure_plan.Plans.{plan_of}
use Rattle.wiring_plan.specs.declared.structure_plan.plan.PortPlan.{PortPlan}
use Rattle.wiring_plan.specs.declared.structure_plan.plan.ReferencePlan.{ReferencePlan}
use Rattle.wiring_plan.specs.declared.structure_plan.plan.SidePlan.{SidePlan}
use Rattle.wiring_plan.specs.declared.structure_plan.plan.SidePlan.TheVariants.{Own, Inner}
use Rattle.wiring_places.specs.declared.place_rules.place.LayerJoin.{LayerJoin}
use Rattle.wiring_places.specs.place_rules.Parts.{container_of, container_class}
use Rattle.wiring_joins.specs.place_faces.SlotsOf.{AreSlotsOf}
use Rattle.wiring_joins.proofs.place_faces.Faces.{IsFace}
use Rattle.wiring_joins.proofs.place_faces.Uses.{UsesOwn, UsesInner, Uses}
use Rattle.binding_expand.proofs.plan_laws.Numbers.{actors_few, class_is, number_kept}
use Rattle.binding_expand.proofs.plan_laws.Services.{mapped_some}
use Rattle.law_models.proofs.joined_ports.Entries.{entry_at, port_in, planned_entry, tables_are, known_of}
use Rattle.law_models.proofs.joined_ports.Ends.{IsEnd}

-- the type that `binding_rules` keeps to itself, told by the function that gives it
abbrev Found : {A B : Type 0} → (A → Option B) → Type 0
Found {A} {B} f = B

-- what a side of a binding names
abbrev pub BindingEnd : Type 0
BindingEnd = Found own_end

-- ---- ends of ports

-- what a port is to a binding: an end of the port's protocol
record Shows (end : Option BindingEnd) (protocol : Option ℕ) : Type 0 where
  here : BindingEnd
  is : end ≡ Some here
  protocol_is : here.protocol ≡ protocol

own_shows : (e : PortEntry) → (e.kind ≡ kinds.Relay) ⊎ (e.kind ≡ kinds.Internal) → Shows (own_end e) e.protocol
own_shows e (inl k) = record { here = record { protocol = e.protocol; conjugated = not e.conjugated; any_places = is_any e.places; replicated = false }; is = rw k refl; protocol_is = refl }
own_shows e (inr k) = record { here = record { protocol = e.protocol; conjugated = e.conjugated; any_places = is_any e.places; replicated = false }; is = rw k refl; protocol_is = refl }

inner_shows : (replicated : Bool) (e : PortEntry) → (e.kind ≡ kinds.Relay) ⊎ (e.kind ≡ kinds.End) → Shows (inner_end replicated e) e.protocol
inner_shows replicated e (inl k) = record { here = record { protocol = e.protocol; conjugated = e.conjugated; any_places = is_any e.places; replicated = replicated }; is = rw k refl; protocol_is = refl }
inner_shows replicated e (inr k) = record { here = record { protocol = e.protocol; conjugated = e.conjugated; any_places = is_any e.places; replicated = replicated }; is = rw k refl; protocol_is = refl }

-- ---- what a side names

-- a side names a port of the class itself
own_named : (actors : List Container) (c : Container) (l : Side) (p : ℕ) (e : PortEntry) → side_plan actors c l ≡ Some (Own p) → slice_get c.ports p ≡ Some e → end_of actors c l ≡ own_end e
own_named actors c (sides.Own name) p e is at =
    let found = mapped_some (λ q. Own q) (number_of c.port_names name) (Own p) is in
    let number : found.0 ≡ p = let same = found.2 in cc in
    let kept = number_kept c.port_names name found.0 found.1 ∙ ap (λ n. Some n) number in
    ap (λ o. option_and_then own_end (option_and_then (slice_get c.ports) o)) kept ∙ ap (option_and_then own_end) at
own_named actors c (sides.Inner reference port) p e is at =
    option_and_then_some (inner_side actors c port) (number_of c.reference_names reference) (Own p) is
    (λ r named from. absurd (let found = mapped_some (λ q. Inner r q) (port_behind actors c r port) (Own p) from in let same = found.2 in cc))

-- a port of a reference's class
record NamesInner (actors : List Container) (c : Container) (l : Side) (r p : ℕ) : Type 0 where
  re : ReferenceEntry
  k : Container
  i : ℕ
  entry : slice_get c.references r ≡ Some re
  number : re.class ≡ Some i
  behind : slice_get actors i ≡ Some k
  ends : (e : PortEntry) → slice_get k.ports p ≡ Some e → end_of actors c l ≡ inner_end (is_replicated re) e

inner_named : (actors : List Container) (c : Container) (l : Side) (r p : ℕ) → side_plan actors c l ≡ Some (Inner r p) → NamesInner actors c l r p
inner_named actors c (sides.Own name) r p is = absurd (let found = mapped_some (λ q. Own q) (number_of c.port_names name) (Inner r p) is in let same = found.2 in cc)
inner_named actors c (sides.Inner reference port) r p is =
    option_and_then_some (inner_side actors c port) (number_of c.reference_names reference) (Inner r p) is
    (λ n named from.
    let found = mapped_some (λ q. Inner n q) (port_behind actors c n port) (Inner r p) from in
    let same_reference : n ≡ r = let same = found.2 in cc in
    let same_port : found.0 ≡ p = let same = found.2 in cc in
    option_and_then_some (λ (k : Container). number_of k.port_names port) (class_behind actors c n) found.0 found.1
    (λ k behind numbered.
    option_and_then_some (λ (e : ReferenceEntry). option_and_then (slice_get actors) e.class) (slice_get c.references n) k behind
    (λ re at class.
    option_and_then_some (slice_get actors) re.class k class
    (λ i number there.
    let reference_is : reference_named c reference ≡ Some re = ap (option_and_then (slice_get c.references)) (number_kept c.reference_names reference n named) ∙ at in
    let class_there : class_of actors re ≡ Some k = ap (option_and_then (slice_get actors)) number ∙ there in
    let kept = number_kept k.port_names port found.0 numbered ∙ ap (λ q. Some q) same_port in
    record {
      re = re;
      k = k;
      i = i;
      entry = ap (slice_get c.references) (sym same_reference) ∙ at;
      number = number;
      behind = there;
      ends = λ e is.
          ap (option_and_then (λ (r : ReferenceEntry). option_and_then (inner_end (is_replicated r)) (port_behind_reference actors r port))) reference_is
          ∙ ap (λ o. option_and_then (inner_end (is_replicated re)) (option_and_then (λ (c : Container). port_named c port) o)) class_there
          ∙ ap (λ o. option_and_then (inner_end (is_replicated re)) (option_and_then (slice_get k.ports) o)) kept ∙ ap (option_and_then (inner_end (is_replicated re))) is;
    }))))

-- ---- faces

module _ (m : ModelTree) (few : has_few_parts m ≡ true) (slots : List Slot) (joins : List LayerJoin) (are : AreSlotsOf (plan_of m) slots) (c : ℕ) (known : Container)
    (references : (container_class (plan_of m) slots c).references ≡ map reference_plan known.references)
    (inside : (s : ℕ) (x : Slot) → c ≡ s + 1 → slice_get slots s ≡ Some x → slice_get (tables_of m).actors x.class ≡ Some known) where
  abbrev all : List Container
  all = (tables_of m).actors

  -- a face is that of a place of a port of the protocol of the end that a side of a binding names
  pub record IsNamedEnd (l : Side) (f : ℕ) : Type 0 where
    pub end : BindingEnd
    pub named : end_of all known l ≡ Some end
    pub is : IsEnd m slots joins f end.protocol

  -- a port of a place, with the end that a side names
  named_end : (l : Side) (f s p k d : ℕ) (x : Slot) (port : PortPlan) (e : PortEntry) (end : Option BindingEnd) → IsFace (plan_of m) slots joins f s p k d x port → entry_at m x.class p ≡ Some e
      → is_frame e.kind ≡ false → end_of all known l ≡ end → Shows end e.protocol → IsNamedEnd l f
  named_end l f s p k d x port e end face at plain named shows = record {
    end = shows.here;
    named = named ∙ shows.is;
    is = record { s = s; p = p; k = k; d = d; x = x; port = port; face = face; entry = e; entry_is = at; protocol_is = sym shows.protocol_is; plain = plain };
  }

  own_is : (l : Side) (side : SidePlan) (n f : ℕ) → side_plan all known l ≡ Some side → UsesOwn (plan_of m) slots joins c side n f → IsNamedEnd l f
  own_is l side n f is u =
      let found = planned_entry m u.x.class u.p u.port u.face.at.named in
      let e = found.0 in
      let class : slice_get all u.x.class ≡ Some known = inside u.s u.x u.container u.face.at.slot in
      let at : slice_get known.ports u.p ≡ Some e = ap (λ o. port_in o u.p) (sym class) ∙ found.1 in
      let kind : e.kind ≡ u.port.kind = ap (λ (q : PortPlan). q.kind) found.2 in
      let moved = either e kind u.kind in
      named_end l f u.s u.p n u.d u.x u.port e (own_end e) u.face found.1 (plain e moved) (own_named all known l u.p e (is ∙ ap (λ q. Some q) u.named) at) (own_shows e moved)
    where
      either : (e : PortEntry) → e.kind ≡ u.port.kind → ((u.port.kind ≡ kinds.Relay) × (u.d ≡ 1)) ⊎ ((u.port.kind ≡ kinds.Internal) × (u.d ≡ 0)) → (e.kind ≡ kinds.Relay) ⊎ (e.kind ≡ kinds.Internal)
      either e kind (inl q) = inl (kind ∙ q.0)
      either e kind (inr q) = inr (kind ∙ q.0)

      plain : (e : PortEntry) → (e.kind ≡ kinds.Relay) ⊎ (e.kind ≡ kinds.Internal) → is_frame e.kind ≡ false
      plain e (inl q) = ap is_frame q
      plain e (inr q) = ap is_frame q

  inner_is : (l : Side) (side : SidePlan) (n f : ℕ) → side_plan all known l ≡ Some side → UsesInner (plan_of m) slots joins c side n f → IsNamedEnd l f
  inner_is l side n f is u =
      let names = inner_named all known l u.x.reference u.p (is ∙ ap (λ q. Some q) u.named) in
      let stands = are.stands u.s u.x u.face.at.slot in
      let planned : slice_get (container_class (plan_of m) slots (container_of u.x)).references u.x.reference ≡ Some (reference_plan names.re) =
      ap (λ z. slice_get (container_class (plan_of m) slots z).references u.x.reference) (sym u.container)
      ∙ ap (λ rs. slice_get rs u.x.reference) references ∙ slice_get-map reference_plan known.references u.x.reference ∙ ap (option_map reference_plan) names.entry in
      let same_reference : stands.reference ≡ reference_plan names.re = same_Some stands.reference (reference_plan names.re) (sym stands.named ∙ planned) in
      let lt = slice_get_within all names.i names.k names.behind in
      let long = ap length (tables_are m) ∙ length-map (actors m) (known_of m) in
      let most = actors_few m few in
      let class : u.x.class ≡ names.i =
      stands.class ∙ ap (λ (r : ReferencePlan). r.class) same_reference ∙ class_is names.re.class names.i names.number (omega (arith, lt, long, most)) in
      let found = planned_entry m u.x.class u.p u.port u.face.at.named in
      let e = found.0 in
      let at : slice_get names.k.ports u.p ≡ Some e =
      ap (λ o. port_in o u.p) (sym names.behind) ∙ ap (λ i. entry_at m i u.p) (sym class) ∙ found.1 in
      let kind : e.kind ≡ u.port.kind = ap (λ (q : PortPlan). q.kind) found.2 in
      let moved = either e kind u.kind in
      named_end l f u.s u.p u.k 0 u.x u.port e (inner_end (is_replicated names.re) e) u.face found.1 (plain e moved) (names.ends e at) (inner_shows (is_replicated names.re) e moved)
    where
      either : (e : PortEntry) → e.kind ≡ u.port.kind → (u.port.kind ≡ kinds.Relay) ⊎ (u.port.kind ≡ kinds.End) → (e.kind ≡ kinds.Relay) ⊎ (e.kind ≡ kinds.End)
      either e kind (inl q) = inl (kind ∙ q)
      either e kind (inr q) = inr (kind ∙ q)

      plain : (e : PortEntry) → (e.kind ≡ kinds.Relay) ⊎ (e.kind ≡ kinds.End) → is_frame e.kind ≡ false
      plain e (inl q) = ap is_frame q
      plain e (inr q) = ap is_frame q

  pub side_is : (l : Side) (side : SidePlan) (n f : ℕ) → side_plan all known l ≡ Some side → Uses (plan_of m) slots joins c side n f → IsNamedEnd l f
  side_is l side n f is (inl u) = own_is l side n f is u
  side_is l side n f is (inr u) = inner_is l side n f is u
