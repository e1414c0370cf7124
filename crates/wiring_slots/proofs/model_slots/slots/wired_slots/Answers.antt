use Rattle.std.proofs.Common.{ℕ, List, ◌∙◌, refl, sym, ap, subst}
use Rattle.room_ast.specs.Trees.{model_view}
use Rattle.wiring_plan.specs.declared.structure_plan.plan.StructurePlan.{StructurePlan}
use Rattle.wiring_slots.specs.slot_tree.Placing.{IsNumbered}
use Rattle.wiring_slots.proofs.model_slots.Limits.{too_many, too_many_counted, all_found, places_of_all, same_wired}
use Rattle.wiring_slots.proofs.model_slots.slots.wired_slots.Goals as goal

pub slots_of-requires : goal.slots_of-requires
slots_of-requires c = subst (λ (p : StructurePlan). IsNumbered p) (sym c.in_ok-plan.ensures) c.requires.numbered

pub has_few_slots-requires : goal.has_few_slots-requires
has_few_slots-requires c = subst (λ (p : StructurePlan). IsNumbered p) (sym c.in_ok-plan.ensures) c.requires.numbered

pub returns-then-not-branch : goal.returns-then-not-branch
returns-then-not-branch c = too_many_counted (model_view c.args.model.now) c.in_ok-plan.plan c.in_ok-has_few_slots.field-0 c.in_ok-plan.ensures c.in_ok-has_few_slots.ensures c.if-not-branch.true

pub returns-in_default : goal.returns-in_default
returns-in_default c =
    too_many (model_view c.args.model.now) c.in_ok-plan.plan c.in_ok-names.names c.in_ok-names.names.mappings c.in_ok-slots.field-0 c.in_ok-plan.ensures c.in_ok-names.ensures refl c.in_ok-slots.ensures c.in_default.is

pub returns-then-branch : goal.returns-then-branch
returns-then-branch c =
    let m = model_view c.args.model.now in (
      (all_found m c.in_ok-plan.plan c.in_ok-names.names c.in_ok-names.names.mappings c.in_ok-slots.field-0 c.in_ok-plan.ensures c.in_ok-names.ensures refl c.in_ok-slots.ensures c.in-Some.slots c.in-Some.is).1,
      sym (places_of_all m c.in_ok-plan.plan c.in_ok-names.names c.in_ok-names.names.mappings c.in_ok-slots.field-0 c.in_ok-plan.ensures c.in_ok-names.ensures refl c.in_ok-slots.ensures c.in-Some.slots c.as_slice.result.now
          c.in_ok-has_too_many_places.field-0 c.in-Some.is c.as_slice.ensures c.in_ok-has_too_many_places.ensures) ∙ c.if-branch.true,
    )

pub returns : goal.returns
returns c =
    let m = model_view c.args.model.now in
    let all = all_found m c.in_ok-plan.plan c.in_ok-names.names c.in_ok-names.names.mappings c.in_ok-slots.field-0 c.in_ok-plan.ensures c.in_ok-names.ensures refl c.in_ok-slots.ensures c.in-Some.slots c.in-Some.is in (
      ap (λ (controllers : List (List ℕ)). record { plan = c.in_ok-plan.plan; controllers = controllers; classes = c.in_ok-classes.classes; slots = c.in-Some.slots }) c.only_controllers-controllers.ensures
          ∙ same_wired m c.in_ok-plan.plan c.in_ok-names.names c.in_ok-classes.classes c.in-Some.slots c.in_ok-plan.ensures c.in_ok-names.ensures c.in_ok-classes.ensures all.0,
      all.1,
      sym (places_of_all m c.in_ok-plan.plan c.in_ok-names.names c.in_ok-names.names.mappings c.in_ok-slots.field-0 c.in_ok-plan.ensures c.in_ok-names.ensures refl c.in_ok-slots.ensures c.in-Some.slots c.as_slice.result.now
          c.in_ok-has_too_many_places.field-0 c.in-Some.is c.as_slice.ensures c.in_ok-has_too_many_places.ensures) ∙ c.if-branch.false,
    )
