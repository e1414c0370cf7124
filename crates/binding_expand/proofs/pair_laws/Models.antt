-- The slots of a model that keeps the rules are those of its structure.
use Rattle.std.proofs.Common.{◌≡◌, inl, inr, ℕ, zero, suc, Bool, true, false, cond, List, length, Option, Some, None, slice_get, sym, subst}
use Rattle.std.proofs.lemmas.Bool.{cases_lt}
use Rattle.std.proofs.lemmas.List.{get_or_past}
use Rattle.std.proofs.lemmas.List.Elements.{All-nil}
use Rattle.room_ast.specs.Trees.{ModelTree}
use Rattle.room_wiring.specs.declared.slot.Slot.{Slot}
use Rattle.check_bindings.specs.binding_rules.Rules.{layers_are_known}
use Rattle.check_classes.specs.class_rules.Ends.{has_known_actors}
use Rattle.check_tables.specs.containment_rules.Circles.{actors_are_finite}
use Rattle.check_mappings.specs.count_rules.Counts.{has_few_parts}
use Rattle.room_kinds.specs.Structure.{is_imported}
use Rattle.wiring_places.specs.place_rules.Parts.{no_class, class_plan, container_class, inside_of}
use Rattle.wiring_plan.specs.structure_plan.Plans.{plan_of}
use Rattle.wiring_plan.specs.declared.structure_plan.plan.StructurePlan.{StructurePlan}
use Rattle.wiring_slots.specs.slot_tree.Slots.{slots_of}
use Rattle.wiring_slots.specs.slot_names.Names.{wired_names}
use Rattle.wiring_slots.specs.model_slots.Answers.{slots_in}
use Rattle.wiring_joins.specs.place_faces.SlotsOf.{GivesService, AreSlotsOf}
use Rattle.wiring_joins.specs.place_faces.Paired.{IsPairedOnce}
use Rattle.wiring_joins.proofs.place_faces.Whole.{paired_once}
use Rattle.wiring_joins.specs.slot_references.Referred.{StandForReferences}
use Rattle.wiring_joins.proofs.slot_references.Trees.{slots_stand}
use Rattle.binding_expand.specs.plan_laws.Sound.{GivesServices, IsSound}
use Rattle.binding_expand.proofs.plan_laws.Plans.{sound_plan}

module _ (plan : StructurePlan) (slots : List Slot) (sound : IsSound plan) where
  class_gives : (n : ℕ) → GivesServices plan (class_plan plan n)
  class_gives n = elim (cases_lt n (length plan.classes)) [
    | inl lt ↦ sound.classes n no_class lt
    | inr ge ↦ let past = get_or_past plan.classes n no_class ge in subst (GivesServices plan) (sym past) (All-nil (GivesService plan no_class))
  ]

  inside_gives : (found : Option Slot) → GivesServices plan (inside_of plan found)
  inside_gives None = All-nil (GivesService plan no_class)
  inside_gives (Some x) = pick (is_imported x.kind)
    where
      pick : (b : Bool) → GivesServices plan (cond b no_class (class_plan plan x.class))
      pick true = All-nil (GivesService plan no_class)
      pick false = class_gives x.class

  container_gives : (c : ℕ) → GivesServices plan (container_class plan slots c)
  container_gives zero = sound.subsystem
  container_gives (suc s) = inside_gives (slice_get slots s)

  slots_are : StandForReferences plan slots → AreSlotsOf plan slots
  slots_are stand = record { no_ports = sound.no_ports; stands = stand.stands; counted = stand.counted; services = container_gives }

-- the slots of a model that keeps the rules are those of its structure
pub model_slots : (m : ModelTree) → has_known_actors m ≡ true → actors_are_finite m ≡ true → layers_are_known m ≡ true → has_few_parts m ≡ true → AreSlotsOf (plan_of m) (slots_in m)
unfolding slots_in
model_slots m known finite layers few =
    let sound = sound_plan m known finite layers few in
    slots_are (plan_of m) (slots_of (plan_of m) (wired_names m).slots (wired_names m).mappings) sound (slots_stand (plan_of m) (wired_names m).slots (wired_names m).mappings sound.finite)

pub model_paired_once : (m : ModelTree) → has_known_actors m ≡ true → actors_are_finite m ≡ true → layers_are_known m ≡ true → has_few_parts m ≡ true → IsPairedOnce (plan_of m) (slots_in m)
model_paired_once m known finite layers few = paired_once (plan_of m) (slots_in m) (model_slots m known finite layers few)
