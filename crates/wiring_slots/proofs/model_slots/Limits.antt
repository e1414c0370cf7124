-- What the slots that are found say of all slots.
use Rattle.std.proofs.Common.{◌≡◌, ◌∙◌, ◌<◌, ◌≤◌, Bool, true, false, cond, List, length, Option, Some, None, refl, sym, ap, arith}
use Rattle.std.specs.Prelude.{nat_le}
use Rattle.std.proofs.lemmas.Bool.Decides.{nat_tests}
use Rattle.room_ast.specs.Trees.{ModelTree}
use Rattle.room_wiring.specs.declared.slot.Slot.{Slot}
use Rattle.wiring_plan.specs.structure_plan.Plans.{plan_of}
use Rattle.wiring_plan.specs.declared.structure_plan.plan.StructurePlan.{StructurePlan}
use Rattle.wiring_slots.specs.slot_tree.Placing.{at_most, TellsFew}
use Rattle.wiring_slots.specs.slot_tree.Places.{has_too_many_places}
use Rattle.wiring_slots.specs.slot_tree.Slots.{slots_of}
use Rattle.wiring_slots.specs.declared.slot_tree.names.MappingPlan.{MappingPlan}
use Rattle.wiring_slots.specs.slot_names.Names.{wired_names}
use Rattle.wiring_slots.specs.declared.slot_names.names.WiredNames.{WiredNames}
use Rattle.room_wiring.specs.declared.names.ClassNames.{ClassNames}
use Rattle.wiring_plan.specs.wiring_classes.Classes.{classes_of}
use Rattle.wiring_slots.specs.model_slots.Answers.{slots_in, wired}
use Rattle.wiring_slots.specs.declared.model_slots.slots.WiredSlots.{WiredSlots}

-- what is answered, from its parts
abbrev pub made : StructurePlan → WiredNames → List ClassNames → List Slot → WiredSlots
made plan names classes slots = record { plan = plan; controllers = names.controllers; classes = classes; slots = slots }

-- the slots that are found are those of the model
found_in : (m : ModelTree) (plan : StructurePlan) (names : WiredNames) (mappings : List MappingPlan) (found : Option (List Slot)) → plan ≡ plan_of m → names ≡ wired_names m → mappings ≡ names.mappings
    → found ≡ at_most 4096 (slots_of plan names.slots mappings) → found ≡ at_most 4096 (slots_in m)
unfolding slots_in
found_in m plan names mappings found plan_is names_is mappings_is h =
    h ∙ ap (λ (ms : List MappingPlan). at_most 4096 (slots_of plan names.slots ms)) mappings_is ∙ ap (λ (n : WiredNames). at_most 4096 (slots_of plan n.slots n.mappings)) names_is
    ∙ ap (λ (p : StructurePlan). at_most 4096 (slots_of p (wired_names m).slots (wired_names m).mappings)) plan_is

module _ (m : ModelTree) (plan : StructurePlan) (names : WiredNames) (mappings : List MappingPlan) (found : Option (List Slot)) (plan_is : plan ≡ plan_of m) (names_is : names ≡ wired_names m) (mappings_is : mappings ≡ names.mappings) (h : found ≡ at_most 4096 (slots_of plan names.slots mappings)) where
  -- none are found where there are more than the limit
  pub too_many : found ≡ None → 4096 < length (slots_in m)
  too_many none = go (nat_le (length (slots_in m)) 4096) refl (sym none ∙ found_in m plan names mappings found plan_is names_is mappings_is h)
    where
      go : (b : Bool) → nat_le (length (slots_in m)) 4096 ≡ b → None ≡ cond b (Some (slots_in m)) None → 4096 < length (slots_in m)
      go true e f = absurd cc
      go false e f = grind (arith, nat_tests)

  -- those that are found are all, and few
  pub all_found : (ss : List Slot) → found ≡ Some ss → (ss ≡ slots_in m) × (length (slots_in m) ≤ 4096)
  all_found ss some = go (nat_le (length (slots_in m)) 4096) refl (sym some ∙ found_in m plan names mappings found plan_is names_is mappings_is h)
    where
      go : (b : Bool) → nat_le (length (slots_in m)) 4096 ≡ b → Some ss ≡ cond b (Some (slots_in m)) None → (ss ≡ slots_in m) × (length (slots_in m) ≤ 4096)
      go true e f = (cc, grind (arith, nat_tests))
      go false e f = absurd cc

  -- what is said of their places is said of all slots
  pub places_of_all : (ss slice : List Slot) (b : Bool) → found ≡ Some ss → slice ≡ ss → b ≡ has_too_many_places plan slice → b ≡ has_too_many_places (plan_of m) (slots_in m)
  places_of_all ss slice b some same e =
      e ∙ ap (λ (xs : List Slot). has_too_many_places plan xs) (same ∙ (all_found ss some).0) ∙ ap (λ (p : StructurePlan). has_too_many_places p (slots_in m)) plan_is

-- all that was found is what was asked for
pub same_wired : (m : ModelTree) (plan : StructurePlan) (names : WiredNames) (classes : List ClassNames) (slots : List Slot) → plan ≡ plan_of m → names ≡ wired_names m → classes ≡ classes_of m → slots ≡ slots_in m → made plan names classes slots ≡ wired m
same_wired m plan names classes slots plan_is names_is classes_is slots_is =
    ap (λ (p : StructurePlan). made p names classes slots) plan_is ∙ ap (λ (n : WiredNames). made (plan_of m) n classes slots) names_is
    ∙ ap (λ (ks : List ClassNames). made (plan_of m) (wired_names m) ks slots) classes_is ∙ ap (λ (ss : List Slot). made (plan_of m) (wired_names m) (classes_of m) ss) slots_is

-- what is told of the structure's slots is told of the model's
pub too_many_counted : (m : ModelTree) (plan : StructurePlan) (b : Bool) → plan ≡ plan_of m → TellsFew plan b → b ≡ false → 4096 < length (slots_in m)
unfolding slots_in
too_many_counted m plan b plan_is told e =
    let few : nat_le (length (slots_of (plan_of m) (wired_names m).slots (wired_names m).mappings)) 4096 ≡ false =
    ap (λ (p : StructurePlan). nat_le (length (slots_of p (wired_names m).slots (wired_names m).mappings)) 4096) (sym plan_is) ∙ sym (told (wired_names m).slots (wired_names m).mappings) ∙ e in
    grind (arith, nat_tests)
