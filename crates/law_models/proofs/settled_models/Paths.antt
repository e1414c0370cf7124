-- Whether a path of steps through a structure may end where it does, by the rule on mapped paths.
use Rattle.std.proofs.Common.{Bool, false, true, List, [], ◌∷◌, Option, Some, None, slice_get}
use Rattle.std.specs.Prelude.{◌≡◌, ◌||◌}
use Rattle.std.specs.Option.{option_map_or}
use Rattle.room_kinds.specs.declared.structure.ReferenceKind.{ReferenceKind}
use Rattle.check_mappings.specs.mapping_rules.Rules.{may_end_with}
use Rattle.check_mappings.specs.mapping_rules.Walks.{is_optional}
use Rattle.wiring_plan.specs.declared.structure_plan.plan.ReferencePlan.{ReferencePlan}
use Rattle.wiring_plan.specs.declared.structure_plan.plan.StructurePlan.{StructurePlan}
use Rattle.wiring_slots.specs.declared.slot_tree.names.MappingPlan.{MappingPlan}
use Rattle.wiring_slots.specs.declared.slot_tree.names.StepPlan.{StepPlan}
use Rattle.wiring_slots.specs.slot_tree.Slots.{references_of_class}

-- whether what comes behind a place lies below an optional reference
abbrev pub deeper : Bool → Option ReferenceKind → Bool
deeper below kind = below || option_map_or is_optional kind false

-- whether the path goes on from a place, with these references there, to where a mapped path may end
abbrev pub ends_well : StructurePlan → List ReferencePlan → Bool → Option ReferenceKind → List StepPlan → Bool
ends_well plan refs below kind [] = option_map_or (may_end_with below) kind true
ends_well plan refs below kind (s ∷ ss) =
    option_map_or (λ (r : ReferencePlan). ends_well plan (references_of_class plan r.class) (deeper below kind) (Some r.kind) ss) (slice_get refs s.reference) true

-- a mapping ends where it may
abbrev pub EndsWell : StructurePlan → MappingPlan → Type 0
EndsWell plan m = ends_well plan plan.subsystem.references false None m.steps ≡ true
