use Rattle.std.proofs.Common.{◌∙◌, sym, ap}
use Rattle.std.specs.Prelude.{slice_get, if◌then◌else◌}
use Rattle.std.specs.Option.{option_copied}
use Rattle.wiring_places.specs.place_rules.Parts.{no_class, class_plan, inside_of}
use Rattle.wiring_places.specs.place_pairs.Classes.{class_or_none}
use Rattle.wiring_places.proofs.place_pairs.ClassSteps.{get_class}
use Rattle.wiring_places.proofs.place_pairs.containers.inside_class.Goals as goal

pub returns-then-is_imported : goal.returns-then-is_imported
returns-then-is_imported c = ap (λ t. if t then no_class else class_plan c.args.plan.now c.in-Some.slot.now.class) c.if-is_imported.ensures ∙ ap (λ o. inside_of c.args.plan.now (option_copied o)) (sym c.in-Some.is)

pub returns-else-is_imported : goal.returns-else-is_imported
returns-else-is_imported c =
    ap class_or_none (c.class_at.ensures ∙ ap (λ xs. slice_get xs c.in-Some.slot.now.class) c.as_slice.ensures) ∙ get_class c.args.plan.now.classes c.in-Some.slot.now.class ∙ ap (λ t. if t then no_class else class_plan c.args.plan.now c.in-Some.slot.now.class) c.if-is_imported.ensures
    ∙ ap (λ o. inside_of c.args.plan.now (option_copied o)) (sym c.in-Some.is)
