-- The mappings in the braces of a mapping begin with its path.
use Rattle.std.proofs.Common.{◌≡◌, ◌∙◌, ℕ, zero, suc, ◌<◌, List, [], ◌∷◌, ◌++◌, Option, Some, None, length, append-nil, append_assoc, length-append, subst, refl, sym, ap, arith}
use Rattle.std.specs.Prelude.{option_map, slice_get, All}
use Rattle.std.specs.Option.{option_map_or}
use Rattle.std.proofs.lemmas.List.Elements.{All-nil, All-cons, All-append, All-weaker}
use Rattle.std.proofs.lemmas.Option.{none-some, same_Some, option_and_then_some, slice_get-get_or}
use Rattle.room_ast.specs.MappingTree.{MappingTree, MappingOf, NestedTree, no_braces, in_braces, Mappings, no_mappings, mapping}
use Rattle.room_ast.specs.declared.system.Segment.{Segment}
use Rattle.check_tables.specs.declared.class_tables.container.Container.{Container}
use Rattle.wiring_plan.specs.structure_plan.Parts.{number_of}
use Rattle.wiring_slots.specs.declared.slot_tree.names.MappingPlan.{MappingPlan}
use Rattle.wiring_slots.specs.declared.slot_tree.names.StepPlan.{StepPlan}
use Rattle.wiring_slots.specs.slot_tree.MappingOrders.{EndsAlike}
use Rattle.wiring_slots.specs.slot_names.Behind.{Longer}
use Rattle.wiring_slots.specs.slot_names.Ways.{WayTree, stepped, step_in, further, walked, path_end, mappings_of, mapped_to, all_mappings}
use Rattle.wiring_slots.proofs.slot_tree.MappingOrders.{known_on}

pub longer_on : (a b c : List StepPlan) → Longer a b → Longer b c → Longer a c
longer_on a b c h k = record {
  rest = h.rest ++ k.rest;
  is = k.is ∙ ap (λ (xs : List StepPlan). xs ++ k.rest) h.is ∙ append_assoc a h.rest k.rest;
}

module _ (actors : List Container) where
  step_longer : (w : WayTree) (s : Segment) (c : Container) (v : WayTree) (o : Option ℕ) → option_map (stepped actors w s.index c) o ≡ Some v → Longer w.steps v.steps
  step_longer w s c v None e = absurd (none-some v e)
  step_longer w s c v (Some r) e = record {
    rest = record { reference = r; index = s.index } ∷ [];
    is = ap (λ (u : WayTree). u.steps) (sym (same_Some (stepped actors w s.index c r) v e));
  }

  further_longer : (w : WayTree) (s : Segment) (v : WayTree) → further actors w s ≡ Some v → Longer w.steps v.steps
  unfolding further
  further_longer w s v e = option_and_then_some (step_in actors w s) w.place v e (λ c there is. step_longer w s c v (number_of c.reference_names s.name) is)

  walked_longer : (ss : List Segment) (w v : WayTree) → walked actors w ss ≡ Some v → Longer w.steps v.steps
  walked_longer [] w v e = record { rest = []; is = ap (λ (u : WayTree). u.steps) (sym (same_Some w v e)) ∙ sym (append-nil w.steps) }
  walked_longer (s ∷ ss) w v e =
      option_and_then_some (λ (u : WayTree). walked actors u ss) (further actors w s) v e
      (λ u there is. longer_on w.steps u.steps v.steps (further_longer w s u there) (walked_longer ss u v is))

-- a mapping whose path goes on from these steps
abbrev pub Continues : List StepPlan → MappingPlan → Type 0
Continues steps m = Longer steps m.steps

module _ (actors : List Container) (threads : List (List ℕ)) where
  mutual
    mapping_longer : (w : WayTree) (m : MappingTree) → All (Continues w.steps) (mappings_of actors threads w m)
    mapping_longer w (MappingOf path thread nested) = at_end w thread nested (path_end actors w path) (λ v e. walked_longer actors (path.first ∷ path.others) w v e)

    at_end : (w : WayTree) (thread : List ℕ) (nested : NestedTree) (o : Option WayTree) → ((v : WayTree) → o ≡ Some v → Longer w.steps v.steps)
        → All (Continues w.steps) (option_map_or (mapped_to actors threads thread nested) o [])
    at_end w thread nested None h = All-nil (Continues w.steps)
    at_end w thread no_braces (Some v) h = All-cons (Continues w.steps) _ [] (h v refl) (All-nil (Continues w.steps))
    at_end w thread (in_braces ms) (Some v) h =
        All-cons (Continues w.steps) _ (all_mappings actors threads v ms) (h v refl)
        (All-weaker (Continues v.steps) (Continues w.steps) (λ m k. longer_on w.steps v.steps m.steps (h v refl) k) (all_mappings actors threads v ms) (nested_longer v ms))

    pub nested_longer : (v : WayTree) (ms : Mappings) → All (Continues v.steps) (all_mappings actors threads v ms)
    nested_longer v no_mappings = All-nil (Continues v.steps)
    nested_longer v (mapping m ms) = All-append (Continues v.steps) (mappings_of actors threads v m) (all_mappings actors threads v ms) (mapping_longer v m) (nested_longer v ms)

alike : (old : List MappingPlan) (p : MappingPlan) (inner : List MappingPlan) → All (Continues p.steps) inner → EndsAlike (old ++ p ∷ inner) (length old) (length (old ++ p ∷ inner))
alike [] p inner all zero steps s low high e = e
alike [] p inner all (suc j) steps s low high e =
    let inside : j < length inner = omega (arith, high) in
    let there = slice_get-get_or inner j p inside in
    let on = all j p inside in
    rw there (ap (λ (xs : List StepPlan). slice_get xs steps) on.is ∙ known_on p.steps on.rest steps s e)
alike (x ∷ xs) p inner all zero steps s low high e = absurd (omega arith)
alike (x ∷ xs) p inner all (suc j) steps s low high e = alike xs p inner all j steps s (omega arith) (omega arith) e

-- what stands behind a mapping when those in its braces were added
pub record Closes (now : List MappingPlan) (first : ℕ) : Type 0 where
  pub inside : first < length now
  pub alike : EndsAlike now first (length now)

pub closes : (actors : List Container) (threads : List (List ℕ)) (v : WayTree) (ms : Mappings) (old now : List MappingPlan) (p : MappingPlan) (first : ℕ) → first ≡ length old → p.steps ≡ v.steps
    → now ≡ (old ++ p ∷ []) ++ all_mappings actors threads v ms → Closes now first
closes actors threads v ms old now p first at same is =
    let inner = all_mappings actors threads v ms in
    let whole : now ≡ old ++ p ∷ inner = is ∙ append_assoc old (p ∷ []) inner in
    let long = ap length whole ∙ length-append old (p ∷ inner) in
    record {
      inside = omega (arith, at, long);
      alike =
          subst (λ k. EndsAlike now k (length now)) (sym at)
          (subst (λ (ms : List MappingPlan). EndsAlike ms (length old) (length ms)) (sym whole) (alike old p inner (subst (λ (ss : List StepPlan). All (Continues ss) inner) (sym same) (nested_longer actors threads v ms))));
    }
