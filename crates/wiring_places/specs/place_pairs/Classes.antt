-- Classes that may be missing.
use Rattle.std.specs.Prelude.{Option, Some, None}
use Rattle.wiring_plan.specs.declared.structure_plan.plan.ClassPlan.{ClassPlan}
use Rattle.wiring_places.specs.place_rules.Parts.{no_class}

-- the class, or one without parts
abbrev pub class_or_none : Option ClassPlan → ClassPlan
class_or_none None = no_class
class_or_none (Some class) = class
