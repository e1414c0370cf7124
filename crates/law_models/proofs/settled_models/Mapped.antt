-- The mappings of a subsystem class whose mapped paths exist and may end where they do end where they may.
use Rattle.std.proofs.Common.{◌≡◌, ◌∙◌, ℕ, Bool, true, false, cond, List, [], ◌∷◌, ◌++◌, map, Option, Some, None, slice_get, refl, sym, ap, subst, append-nil, append_assoc}
use Rattle.std.specs.Prelude.{◌&&◌, option_map, option_and_then, unwrap_or, nat_le}
use Rattle.std.specs.List.{AllByRecursion as Each, flat_map}
use Rattle.std.specs.Option.{option_map_or}
use Rattle.std.proofs.lemmas.Option.{same_Some, slice_get-map}
use Rattle.room_kinds.specs.Structure.{is_imported}
use Rattle.room_ast.specs.MappingTree.{MappingTree, MappingOf, no_braces, in_braces, Mappings, no_mappings, mapping}
use Rattle.room_ast.specs.Trees.{SubsystemItemTree, AReference, ABinding, ALayer, AThread, AMapping}
use Rattle.room_ast.specs.declared.system.MappingPath.{MappingPath}
use Rattle.room_ast.specs.declared.system.Segment.{Segment}
use Rattle.room_ast.specs.model_parts.Classes.{number_in}
use Rattle.room_ast.specs.declared.model_parts.entries.ReferenceEntry.{ReferenceEntry}
use Rattle.name_tables.specs.name_numbers.Names.{is_among}
use Rattle.check_tables.specs.declared.class_tables.container.Container.{Container}
use Rattle.check_mappings.specs.mapping_rules.Rules.{is_known, all_known, item_known, items_known, may_end_at, is_allowed, all_allowed, item_allowed, items_allowed}
use Rattle.check_mappings.specs.mapping_rules.Walks.{Place, reference_named, index_fits, inside, behind, behind_if, step, walk, path_end as place_end}
use Rattle.wiring_plan.specs.structure_plan.Parts.{short, reference_plan, class_behind}
use Rattle.wiring_plan.specs.declared.structure_plan.plan.ReferencePlan.{ReferencePlan}
use Rattle.wiring_plan.specs.declared.structure_plan.plan.StructurePlan.{StructurePlan}
use Rattle.wiring_slots.specs.declared.slot_tree.names.MappingPlan.{MappingPlan}
use Rattle.wiring_slots.specs.declared.slot_tree.names.StepPlan.{StepPlan}
use Rattle.wiring_slots.specs.slot_names.Ways.{WayTree, stepped, step_in, further, walked, path_end, mappings_of, mapped_to, all_mappings, item_mappings}
use Rattle.wiring_slots.specs.slot_tree.Slots.{references_of_class}
use Rattle.law_models.proofs.settled_models.Paths.{deeper, ends_well, EndsWell}

pub both : (a b : Bool) → (a && b) ≡ true → (a ≡ true) × (b ≡ true)
both true b h = (refl, h)
both false b h = absurd cc

-- the plan has for each actor class the references that the class's table has
pub record HasClasses (plan : StructurePlan) (actors : List Container) : Type 0 where
  pub each : (k : ℕ) (c : Container) → slice_get actors k ≡ Some c → (short k ≡ Some k) × (references_of_class plan k ≡ map reference_plan c.references)

module _ (actors : List Container) (plan : StructurePlan) (classes : HasClasses plan actors) where
  abbrev Ends : List StepPlan → Type 0
  Ends ss = ends_well plan plan.subsystem.references false None ss ≡ true

  -- a way has led to a place: a path ends well that goes on from there so that it ends well
  record Leads (w : WayTree) (p : Place) : Type 0 where
    refs : List ReferencePlan
    same : (c : Container) → p.container ≡ Some c → w.place ≡ Some c
    those : (c : Container) → p.container ≡ Some c → refs ≡ map reference_plan c.references
    on : (ss : List StepPlan) → ends_well plan refs p.below_optional p.kind ss ≡ true → Ends (w.steps ++ ss)

  module _ (w : WayTree) (p : Place) (leads : Leads w p) (s : Segment) where
    -- one step further by a reference of a class
    module _ (c : Container) (in_class : p.container ≡ Some c) (r : ReferenceEntry) (n : ℕ) (at : slice_get c.references n ≡ Some r) where
      abbrev there : WayTree
      there = stepped actors w s.index c n

      abbrev taken : StepPlan
      taken = record { reference = n; index = s.index }

      not_imported : (k : Container) (b : Bool) → cond b None (option_and_then (slice_get actors) r.class) ≡ Some k → option_and_then (slice_get actors) r.class ≡ Some k
      not_imported k true e = absurd cc
      not_imported k false e = e

      goes_same : (k : Container) → inside actors r ≡ Some k → class_behind actors c n ≡ Some k
      goes_same k e = ap (option_and_then (λ (x : ReferenceEntry). option_and_then (slice_get actors) x.class)) at ∙ not_imported k (is_imported r.kind) e

      goes_those : (k : Container) → inside actors r ≡ Some k → references_of_class plan (reference_plan r).class ≡ map reference_plan k.references
      goes_those k e = by_class r.class (not_imported k (is_imported r.kind) e)
        where
          by_class : (o : Option ℕ) → option_and_then (slice_get actors) o ≡ Some k → references_of_class plan (unwrap_or (option_and_then short o) 0) ≡ map reference_plan k.references
          by_class None e = absurd cc
          by_class (Some i) e = let each = classes.each i k e in ap (λ (o : Option ℕ). references_of_class plan (unwrap_or o 0)) each.0 ∙ each.1

      found : slice_get leads.refs n ≡ Some (reference_plan r)
      found = ap (λ l. slice_get l n) (leads.those c in_class) ∙ slice_get-map reference_plan c.references n ∙ ap (option_map reference_plan) at

      goes_on : (ss : List StepPlan) → ends_well plan (references_of_class plan (reference_plan r).class) (deeper p.below_optional p.kind) (Some r.kind) ss ≡ true → Ends ((w.steps ++ taken ∷ []) ++ ss)
      goes_on ss e =
          subst Ends (sym (append_assoc w.steps (taken ∷ []) ss))
          (leads.on (taken ∷ ss)
          (ap (λ (o : Option ReferencePlan). option_map_or (λ (x : ReferencePlan). ends_well plan (references_of_class plan x.class) (deeper p.below_optional p.kind) (Some x.kind) ss) o true) found ∙ e))

      steps_on : Leads there (behind actors p r)
      steps_on = record { refs = references_of_class plan (reference_plan r).class; same = goes_same; those = goes_those; on = goes_on }

    leads_step : (q : Place) (v : WayTree) → step actors p s ≡ Some q → further actors w s ≡ Some v → Leads v q
    unfolding step further
    leads_step q v e f = by_container p.container refl e
      where
        by_number : (c : Container) → p.container ≡ Some c → (o : Option ℕ) → number_in c.reference_names s.name ≡ o
            → option_and_then (behind_if actors p s.index) (option_and_then (slice_get c.references) o) ≡ Some q
            → option_map (stepped actors w s.index c) (option_and_then short o) ≡ Some v → Leads v q
        by_number c in_class None named e f = absurd cc
        by_number c in_class (Some n) named e f = by_entry (slice_get c.references n) refl e
          where
            by_fit : (r : ReferenceEntry) → slice_get c.references n ≡ Some r → (b : Bool) → cond b (Some (behind actors p r)) None ≡ Some q
                → (fits : Bool) → option_map (stepped actors w s.index c) (cond fits (Some n) None) ≡ Some v → Leads v q
            by_fit r at false e fits f = absurd cc
            by_fit r at true e false f = absurd cc
            by_fit r at true e true f =
                subst (λ (z : WayTree). Leads z q) (same_Some (stepped actors w s.index c n) v f)
                (subst (Leads (stepped actors w s.index c n)) (same_Some (behind actors p r) q e) (steps_on c in_class r n at))

            by_entry : (o : Option ReferenceEntry) → slice_get c.references n ≡ o → option_and_then (behind_if actors p s.index) o ≡ Some q → Leads v q
            by_entry None at e = absurd cc
            by_entry (Some r) at e = by_fit r at (index_fits r s.index) e (nat_le n 65535) f

        by_container : (o : Option Container) → p.container ≡ o → option_and_then (λ (c : Container). option_and_then (behind_if actors p s.index) (reference_named c s.name)) o ≡ Some q → Leads v q
        by_container None in_class e = absurd cc
        by_container (Some c) in_class e =
            by_number c in_class (number_in c.reference_names s.name) refl e
            (ap (option_and_then (step_in actors w s)) (sym (leads.same c in_class)) ∙ f)

  leads_walk : (ss : List Segment) (w v : WayTree) (p q : Place) → Leads w p → walk actors p ss ≡ Some q → walked actors w ss ≡ Some v → Leads v q
  leads_walk [] w v p q leads e f = subst (λ (z : WayTree). Leads z q) (same_Some w v f) (subst (Leads w) (same_Some p q e) leads)
  leads_walk (s ∷ ss) w v p q leads e f = by_step (step actors p s) refl e (further actors w s) refl f (λ w' p' there g h. leads_walk ss w' v p' q there g h)
    where
      by_step : (o : Option Place) → step actors p s ≡ o → option_and_then (λ (x : Place). walk actors x ss) o ≡ Some q
          → (u : Option WayTree) → further actors w s ≡ u → option_and_then (λ x. walked actors x ss) u ≡ Some v
          → ((w' : WayTree) (p' : Place) → Leads w' p' → walk actors p' ss ≡ Some q → walked actors w' ss ≡ Some v → Leads v q) → Leads v q
      by_step None h e u i f more = absurd cc
      by_step (Some p') h e None i f more = absurd cc
      by_step (Some p') h e (Some w') i f more = more w' p' (leads_step w p leads s p' w' h i) e f

  leads_end : (path : MappingPath) (w v : WayTree) (p q : Place) → Leads w p → place_end actors p path ≡ Some q → path_end actors w path ≡ Some v → Leads v q
  unfolding place_end
  leads_end path w v p q leads e f = leads_walk (path.first ∷ path.others) w v p q leads e f

  module _ (threads : List (List ℕ)) where
    here : (v : WayTree) (q : Place) (thread : List ℕ) → Leads v q → may_end_at q ≡ true → Ends v.steps
    here v q thread leads may = subst Ends (append-nil v.steps) (leads.on [] may)

    each_both : (xs ys : List MappingPlan) → Each (EndsWell plan) xs → Each (EndsWell plan) ys → Each (EndsWell plan) (xs ++ ys)
    each_both [] ys h k = k
    each_both (x ∷ xs) ys h k = (h.0, each_both xs ys h.1 k)

    plain_ends : (w : WayTree) (p : Place) → Leads w p → (path : MappingPath) (thread : List ℕ) (o : Option Place) → place_end actors p path ≡ o
        → option_map_or (λ (q : Place). true) o false ≡ true → option_map_or may_end_at o true ≡ true
        → (u : Option WayTree) → path_end actors w path ≡ u → Each (EndsWell plan) (option_map_or (mapped_to actors threads thread no_braces) u [])
    plain_ends w p leads path thread None e known allowed u f = absurd cc
    plain_ends w p leads path thread (Some q) e known allowed None f = tt
    plain_ends w p leads path thread (Some q) e known allowed (Some v) f = (here v q thread (leads_end path w v p q leads e f) allowed, tt)

    -- the mappings in braces end well wherever the way before them has led
    abbrev Within : Mappings → Type 0
    Within ms = (v : WayTree) (q : Place) → Leads v q → all_known actors threads q ms ≡ true → all_allowed actors q ms ≡ true → Each (EndsWell plan) (all_mappings actors threads v ms)

    braced_ends : (w : WayTree) (p : Place) → Leads w p → (path : MappingPath) (thread : List ℕ) (ms : Mappings) → Within ms → (o : Option Place) → place_end actors p path ≡ o
        → option_map_or (λ (q : Place). all_known actors threads q ms) o false ≡ true → option_map_or (λ (q : Place). may_end_at q && all_allowed actors q ms) o true ≡ true
        → (u : Option WayTree) → path_end actors w path ≡ u → Each (EndsWell plan) (option_map_or (mapped_to actors threads thread (in_braces ms)) u [])
    braced_ends w p leads path thread ms within None e known allowed u f = absurd cc
    braced_ends w p leads path thread ms within (Some q) e known allowed None f = tt
    braced_ends w p leads path thread ms within (Some q) e known allowed (Some v) f =
        let there = leads_end path w v p q leads e f in
        let may = both (may_end_at q) (all_allowed actors q ms) allowed in
        (here v q thread there may.0, within v q there known may.1)

    mutual
      mapping_ends : (w : WayTree) (p : Place) → Leads w p → (m : MappingTree) → is_known actors threads p m ≡ true → is_allowed actors p m ≡ true → Each (EndsWell plan) (mappings_of actors threads w m)
      mapping_ends w p leads (MappingOf path thread no_braces) known allowed =
          plain_ends w p leads path thread (place_end actors p path) refl (both (is_among threads thread) (option_map_or (λ (q : Place). true) (place_end actors p path) false) known).1 allowed (path_end actors w path) refl
      mapping_ends w p leads (MappingOf path thread (in_braces ms)) known allowed =
          braced_ends w p leads path thread ms (λ v q there k a. mappings_end v q there ms k a) (place_end actors p path) refl
          (both (is_among threads thread) (option_map_or (λ (q : Place). all_known actors threads q ms) (place_end actors p path) false) known).1 allowed (path_end actors w path) refl

      mappings_end : (w : WayTree) (p : Place) → Leads w p → (ms : Mappings) → all_known actors threads p ms ≡ true → all_allowed actors p ms ≡ true → Each (EndsWell plan) (all_mappings actors threads w ms)
      mappings_end w p leads no_mappings known allowed = tt
      mappings_end w p leads (mapping m ms) known allowed =
          let k = both (is_known actors threads p m) (all_known actors threads p ms) known in
          let a = both (is_allowed actors p m) (all_allowed actors p ms) allowed in
          each_both (mappings_of actors threads w m) (all_mappings actors threads w ms) (mapping_ends w p leads m k.0 a.0) (mappings_end w p leads ms k.1 a.1)

    item_ends : (w : WayTree) (p : Place) → Leads w p → (i : SubsystemItemTree) → item_known actors threads p i ≡ true → item_allowed actors p i ≡ true → Each (EndsWell plan) (item_mappings actors threads w i)
    item_ends w p leads (AReference r) known allowed = tt
    item_ends w p leads (ABinding b) known allowed = tt
    item_ends w p leads (ALayer l) known allowed = tt
    item_ends w p leads (AThread t) known allowed = tt
    item_ends w p leads (AMapping m) known allowed = mapping_ends w p leads m known allowed

    items_end : (w : WayTree) (p : Place) → Leads w p → (is : List SubsystemItemTree) → items_known actors threads p is ≡ true → items_allowed actors p is ≡ true → Each (EndsWell plan) (flat_map (item_mappings actors threads w) is)
    items_end w p leads [] known allowed = tt
    items_end w p leads (i ∷ is) known allowed =
        let k = both (item_known actors threads p i) (items_known actors threads p is) known in
        let a = both (item_allowed actors p i) (items_allowed actors p is) allowed in
        each_both (item_mappings actors threads w i) (flat_map (item_mappings actors threads w) is) (item_ends w p leads i k.0 a.0) (items_end w p leads is k.1 a.1)

    -- from the subsystem class down
    pub subsystem_ends : (c : Container) → plan.subsystem.references ≡ map reference_plan c.references → (is : List SubsystemItemTree)
        → items_known actors threads (record { container = Some c; below_optional = false; kind = None }) is ≡ true → items_allowed actors (record { container = Some c; below_optional = false; kind = None }) is ≡ true
        → Each (EndsWell plan) (flat_map (item_mappings actors threads (record { steps = []; place = Some c })) is)
    subsystem_ends c same is known allowed =
        items_end (record { steps = []; place = Some c }) (record { container = Some c; below_optional = false; kind = None })
        (record { refs = plan.subsystem.references; same = λ k e. e; those = λ k e. same ∙ ap (λ (x : Container). map reference_plan x.references) (same_Some c k e); on = λ ss e. e }) is known allowed
