-- Each binding of a container is one of its class's, whose sides agree.
use Rattle.std.proofs.Common.{◌≡◌, ◌∙◌, ◌⊎◌, inl, inr, ℕ, zero, suc, ◌+◌, Bool, true, false, cond, List, [], ◌∷◌, map, filter_map, Option, Some, None, slice_get, slice_index_or, refl, sym, ap, subst, arith}
use Rattle.std.specs.List.{AllByRecursion as Each, list_all, cons_option}
use Rattle.std.specs.Option.{option_map_or}
use Rattle.std.proofs.lemmas.Bool.{and_parts}
use Rattle.std.proofs.lemmas.Option.{same_Some}
use Rattle.name_tables.specs.name_numbers.Names.{same}
use Rattle.room_kinds.specs.Structure.{is_imported}
use Rattle.room_ast.specs.Trees.{ModelTree, ActorTree, SubsystemTree, SubsystemItemTree, AReference, ABinding, ALayer, AThread, AMapping}
use Rattle.room_ast.specs.declared.actor.Binding.{Binding}
use Rattle.room_ast.specs.declared.actor.Side.{Side}
use Rattle.room_ast.specs.declared.actor.StructureItem.{StructureItem}
use Rattle.room_ast.specs.declared.actor.StructureItem.TheVariants as structures
use Rattle.room_ast.specs.model_parts.Classes.{actors, subsystems, systems, wired_name, actor_names}
use Rattle.room_ast.specs.model_parts.Ports.{structure_of}
use Rattle.room_wiring.specs.declared.slot.Slot.{Slot}
use Rattle.check_bindings.specs.binding_rules.Bindings.{where_both, ends_agree, sides_agree}
use Rattle.check_bindings.specs.binding_rules.Ends.{end_of}
use Rattle.check_bindings.specs.binding_rules.Rules.{item_passes, subsystem_item_passes, actor_passes, subsystem_passes, binding_sides_agree}
use Rattle.check_tables.specs.class_tables.Containers.{subsystem_container, tables_of}
use Rattle.check_tables.specs.declared.class_tables.container.Container.{Container}
use Rattle.wiring_plan.specs.structure_plan.Parts.{reference_plan, side_plan, binding_plan, joined}
use Rattle.wiring_plan.specs.structure_plan.Plans.{item_binding, subsystem_binding, subsystem_plan, no_plan, plan_of}
use Rattle.wiring_plan.specs.structure_plan.Steps.{first_named}
use Rattle.wiring_plan.specs.declared.structure_plan.plan.BindingPlan.{BindingPlan}
use Rattle.wiring_plan.specs.declared.structure_plan.plan.ClassPlan.{ClassPlan}
use Rattle.wiring_plan.specs.declared.structure_plan.plan.SidePlan.{SidePlan}
use Rattle.wiring_places.specs.place_rules.Parts.{no_class, class_plan, inside_of, container_class}
use Rattle.law_models.proofs.joined_ports.Entries.{planned, known_of, tables_are}

-- ---- bindings of a class

-- a binding comes from two sides that agree
pub record Agrees (actors : List Container) (c : Container) (b : BindingPlan) : Type 0 where
  pub l : Side
  pub r : Side
  pub left : side_plan actors c l ≡ Some b.left
  pub right : side_plan actors c r ≡ Some b.right
  pub agree : where_both ends_agree (end_of actors c l) (end_of actors c r) ≡ true

module _ (actors : List Container) (c : Container) where
  binding_agrees : (x : Binding) (b : BindingPlan) → sides_agree actors c x ≡ true → binding_plan actors c x ≡ Some b → Agrees actors c b
  binding_agrees x b h e = go (side_plan actors c x.left) (side_plan actors c x.right) refl refl e
    where
      go : (o p : Option SidePlan) → side_plan actors c x.left ≡ o → side_plan actors c x.right ≡ p → joined o p ≡ Some b → Agrees actors c b
      go None p eo ep k = absurd cc
      go (Some l) None eo ep k = absurd cc
      go (Some l) (Some r) eo ep k =
          let made : BindingPlan = record { left = l; right = r } in
          let is : made ≡ b = same_Some made b k in
          record {
            l = x.left;
            r = x.right;
            left = eo ∙ ap (λ (z : BindingPlan). Some z.left) is;
            right = ep ∙ ap (λ (z : BindingPlan). Some z.right) is;
            agree = h;
          }

  one_agrees : (x : Binding) (rest : List BindingPlan) → sides_agree actors c x ≡ true → Each (Agrees actors c) rest → Each (Agrees actors c) (cons_option (binding_plan actors c x) rest)
  one_agrees x rest h more = go (binding_plan actors c x) refl
    where
      go : (o : Option BindingPlan) → binding_plan actors c x ≡ o → Each (Agrees actors c) (cons_option o rest)
      go None e = more
      go (Some b) e = (binding_agrees x b h e, more)

  abbrev passes : StructureItem → Bool
  passes = item_passes (sides_agree actors c) (λ l. true)

  items_agree : (is : List StructureItem) → list_all passes is ≡ true → Each (Agrees actors c) (filter_map (item_binding actors c) is)
  items_agree [] h = tt
  items_agree (structures.Usercode u ∷ is) h = items_agree is h
  items_agree (structures.External e ∷ is) h = items_agree is h
  items_agree (structures.Port p ∷ is) h = items_agree is h
  items_agree (structures.Access s ∷ is) h = items_agree is h
  items_agree (structures.Implementation i ∷ is) h = items_agree is h
  items_agree (structures.Attribute a ∷ is) h = items_agree is h
  items_agree (structures.Reference r ∷ is) h = items_agree is h
  items_agree (structures.Binding b ∷ is) h =
      let both = and_parts (sides_agree actors c b) (list_all passes is) h in one_agrees b (filter_map (item_binding actors c) is) both.0 (items_agree is both.1)
  items_agree (structures.Layer l ∷ is) h = items_agree is h

  abbrev subsystem_item : SubsystemItemTree → Bool
  subsystem_item = subsystem_item_passes (sides_agree actors c) (λ l. true)

  subsystem_items_agree : (is : List SubsystemItemTree) → list_all subsystem_item is ≡ true → Each (Agrees actors c) (filter_map (subsystem_binding actors c) is)
  subsystem_items_agree [] h = tt
  subsystem_items_agree (AReference r ∷ is) h = subsystem_items_agree is h
  subsystem_items_agree (ABinding b ∷ is) h =
      let both = and_parts (sides_agree actors c b) (list_all subsystem_item is) h in one_agrees b (filter_map (subsystem_binding actors c) is) both.0 (subsystem_items_agree is both.1)
  subsystem_items_agree (ALayer l ∷ is) h = subsystem_items_agree is h
  subsystem_items_agree (AThread t ∷ is) h = subsystem_items_agree is h
  subsystem_items_agree (AMapping m ∷ is) h = subsystem_items_agree is h

-- ---- classes

-- what is so of a class by its plan: its references are those of what is known of it, and its bindings agree there
record ClassAgrees (actors : List Container) (class : ClassPlan) (known : Container) : Type 0 where
  references : class.references ≡ map reference_plan known.references
  bindings : Each (Agrees actors known) class.bindings

-- the same of a class that may not be there: then it has no bindings
abbrev MayAgree : List Container → ClassPlan → Option Container → Type 0
MayAgree actors class None = class.bindings ≡ []
MayAgree actors class (Some known) = ClassAgrees actors class known

-- a binding of a container is one of the class that the container has
pub record KeepsTo (m : ModelTree) (slots : List Slot) (c : ℕ) (b : BindingPlan) : Type 0 where
  pub known : Container
  pub references : (container_class (plan_of m) slots c).references ≡ map reference_plan known.references
  pub inside : (s : ℕ) (x : Slot) → c ≡ s + 1 → slice_get slots s ≡ Some x → slice_get (tables_of m).actors x.class ≡ Some known
  pub agrees : Agrees (tables_of m).actors known b

module _ (m : ModelTree) (keeps : binding_sides_agree m ≡ true) (slots : List Slot) where
  abbrev all : List Container
  all = (tables_of m).actors

  abbrev actor_test : ActorTree → Bool
  actor_test a = actor_passes (sides_agree all) (λ c l. true) (known_of m a) a

  abbrev subsystem_test : SubsystemTree → Bool
  subsystem_test s = subsystem_passes (sides_agree all) (λ c l. true) (subsystem_container (actor_names m) s) s

  both_pass : (list_all actor_test (actors m) ≡ true) × (list_all subsystem_test (subsystems m) ≡ true)
  unfolding binding_sides_agree
  both_pass = and_parts (list_all actor_test (actors m)) (list_all subsystem_test (subsystems m)) keeps

  classes_agree : (xs : List ActorTree) → list_all actor_test xs ≡ true → (n : ℕ) → MayAgree all (slice_index_or (map (planned m) xs) n no_class) (slice_get (map (known_of m) xs) n)
  classes_agree [] h n = refl
  classes_agree (a ∷ xs) h zero = record { references = refl; bindings = items_agree all (known_of m a) (structure_of a) (and_parts (actor_test a) (list_all actor_test xs) h).0 }
  classes_agree (a ∷ xs) h (suc n) = classes_agree xs (and_parts (actor_test a) (list_all actor_test xs) h).1 n

  class_agrees : (n : ℕ) → MayAgree all (class_plan (plan_of m) n) (slice_get all n)
  unfolding plan_of
  class_agrees n =
      subst (λ (o : Option Container). MayAgree all (slice_index_or (map (planned m) (actors m)) n no_class) o) (ap (λ cs. slice_get cs n) (sym (tables_are m))) (classes_agree (actors m) both_pass.0 n)

  -- ---- the subsystem

  abbrev SubsystemAgrees : ClassPlan → Type 0
  SubsystemAgrees class = (class.bindings ≡ []) ⊎ ((known : Container) × ClassAgrees all class known)

  abbrev made : Option SubsystemTree → ClassPlan
  made o = option_map_or (λ (s : SubsystemTree). subsystem_plan all (subsystem_container (actor_names m) s) s.items) o no_plan

  named_agrees : (name : List ℕ) (ss : List SubsystemTree) → list_all subsystem_test ss ≡ true → SubsystemAgrees (made (first_named name ss))
  named_agrees name [] h = inl refl
  named_agrees name (s ∷ ss) h =
      let both = and_parts (subsystem_test s) (list_all subsystem_test ss) h in
      go (same name s.name) (inr (subsystem_container (actor_names m) s, record { references = refl; bindings = subsystem_items_agree all (subsystem_container (actor_names m) s) s.items both.0 }))
      (named_agrees name ss both.1)
    where
      go : (b : Bool) → SubsystemAgrees (made (Some s)) → SubsystemAgrees (made (first_named name ss)) → SubsystemAgrees (made (cond b (Some s) (first_named name ss)))
      go true here more = here
      go false here more = more

  wired_agrees : (o : Option (List ℕ)) → SubsystemAgrees (made (option_map_or (λ name. first_named name (subsystems m)) o None))
  wired_agrees None = inl refl
  wired_agrees (Some name) = named_agrees name (subsystems m) both_pass.1

  subsystem_agrees : SubsystemAgrees (plan_of m).subsystem
  unfolding plan_of
  subsystem_agrees = wired_agrees (wired_name (systems m))

  -- ---- containers

  abbrev Keeps : ℕ → BindingPlan → Type 0
  Keeps = KeepsTo m slots

  none_keep : (c : ℕ) (bs : List BindingPlan) → bs ≡ [] → Each (Keeps c) bs
  none_keep c [] e = tt
  none_keep c (b ∷ bs) e = absurd cc

  all_keep : (c : ℕ) (known : Container) → (container_class (plan_of m) slots c).references ≡ map reference_plan known.references
      → ((s : ℕ) (x : Slot) → c ≡ s + 1 → slice_get slots s ≡ Some x → slice_get all x.class ≡ Some known) → (bs : List BindingPlan) → Each (Agrees all known) bs → Each (Keeps c) bs
  all_keep c known references inside [] h = tt
  all_keep c known references inside (b ∷ bs) h = (record { known = known; references = references; inside = inside; agrees = h.0 }, all_keep c known references inside bs h.1)

  pub containers_keep : (c : ℕ) → Each (Keeps c) (container_class (plan_of m) slots c).bindings
  containers_keep zero = go subsystem_agrees
    where
      go : SubsystemAgrees (plan_of m).subsystem → Each (Keeps 0) (plan_of m).subsystem.bindings
      go (inl none) = none_keep 0 (plan_of m).subsystem.bindings none
      go (inr h) = all_keep 0 h.0 h.1.references (λ s x e at. absurd (omega (arith, e))) (plan_of m).subsystem.bindings h.1.bindings
  containers_keep (suc s) = by_slot (slice_get slots s) refl
    where
      by_class : (x : Slot) → slice_get slots s ≡ Some x → (container_class (plan_of m) slots (suc s) ≡ class_plan (plan_of m) x.class) → (o : Option Container) → slice_get all x.class ≡ o
          → MayAgree all (class_plan (plan_of m) x.class) o → Each (Keeps (suc s)) (class_plan (plan_of m) x.class).bindings
      by_class x at class None e none = none_keep (suc s) (class_plan (plan_of m) x.class).bindings none
      by_class x at class (Some known) e h =
          all_keep (suc s) known (ap (λ (z : ClassPlan). z.references) class ∙ h.references)
          (λ r y same_slot there.
          let one : s ≡ r = omega (arith, same_slot) in
          let same_one : x ≡ y = same_Some x y (sym at ∙ ap (slice_get slots) one ∙ there) in
          ap (λ (z : Slot). slice_get all z.class) (sym same_one) ∙ e)
          (class_plan (plan_of m) x.class).bindings h.bindings

      by_import : (x : Slot) → slice_get slots s ≡ Some x → (b : Bool) → container_class (plan_of m) slots (suc s) ≡ cond b no_class (class_plan (plan_of m) x.class)
          → Each (Keeps (suc s)) (cond b no_class (class_plan (plan_of m) x.class)).bindings
      by_import x at true class = tt
      by_import x at false class = by_class x at class (slice_get all x.class) refl (class_agrees x.class)

      by_slot : (o : Option Slot) → slice_get slots s ≡ o → Each (Keeps (suc s)) (inside_of (plan_of m) o).bindings
      by_slot None at = tt
      by_slot (Some x) at = by_import x at (is_imported x.kind) (ap (inside_of (plan_of m)) at)
