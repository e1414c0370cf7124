-- What flattening answers.
use Rattle.std.specs.Prelude.{◌≡◌, ℕ, true, false, map, Option, Some, None, Result, Ok, Err, if◌then◌else◌}
use Rattle.std.specs.Global.{Vec}
use Rattle.number_graphs.specs.class_containment.Containment.{IsContainmentOrder}
use Rattle.room_ast.specs.Trees.{ModelTree, model_view}
use Rattle.room_ast.specs.declared.actor.ActorClass.{ActorClass}
use Rattle.room_ast.specs.declared.model.Model.{Model}
use Rattle.room_inherit.specs.BaseRules.{number_of}
use Rattle.room_inherit.specs.Filling.{replaced}
use Rattle.room_inherit.specs.Flat.{flat, flat_class}
use Rattle.room_inherit.specs.Rules.{extended, none_extends_itself, refinements_are_known, refinements_differ, flat_is_small, lowest_broken}
use Rattle.room_inherit.specs.Views.{flat_views}
use Rattle.room_inherit.specs.declared.filling.Filling.{Filling}
use Rattle.room_inherit.specs.declared.filling.Filling.TheVariants as fillings
use Rattle.room_inherit.specs.declared.fault.InheritFault.{InheritFault}
use Rattle.room_inherit.specs.declared.fault.InheritFault.TheVariants as faults

-- Ok exactly where none of the rules is broken, and then the model is the flat one; else the lowest rule that is broken.
abbrev pub IsFlattened : ModelTree → Result Model InheritFault → Type 0
IsFlattened m (Ok r) = (lowest_broken m ≡ None) × (model_view r ≡ flat m)
IsFlattened m (Err (faults.Rule r)) = lowest_broken m ≡ Some (number_of r)
IsFlattened m (Err faults.Memory) = Unit {0}

-- The lowest broken rule where the rules below 31 are kept.
abbrev pub size_rule : ModelTree → Option ℕ
size_rule m = if flat_is_small m then None else Some 31

-- The same before the rule on the size is asked.
abbrev pub IsFlat : ModelTree → Result Model InheritFault → Type 0
IsFlat m (Ok r) = (lowest_broken m ≡ size_rule m) × (model_view r ≡ flat m)
IsFlat m (Err (faults.Rule r)) = lowest_broken m ≡ Some (number_of r)
IsFlat m (Err faults.Memory) = Unit {0}

-- The same of the flat classes alone.
abbrev pub AreFlat : ModelTree → Result (Vec (Option ActorClass)) InheritFault → Type 0
AreFlat m (Ok flats) = (lowest_broken m ≡ size_rule m) × (replaced m.classes (flat_views flats.items) ≡ map (flat_class m.classes) m.classes)
AreFlat m (Err (faults.Rule r)) = lowest_broken m ≡ Some (number_of r)
AreFlat m (Err faults.Memory) = Unit {0}

-- An order in which bases come first, or that some class extends itself.
abbrev pub OrdersBases : ModelTree → Option (Vec ℕ) → Type 0
OrdersBases m None = none_extends_itself m ≡ false
OrdersBases m (Some order) = (none_extends_itself m ≡ true) × IsContainmentOrder (map (extended m.classes) m.classes) order.items

-- The flat classes, or that some refinement names what isn't there, or that the flat model is too large.
abbrev pub FillsModel : ModelTree → Filling → Type 0
FillsModel m (fillings.Flats flats) = (refinements_are_known m ≡ true) × (replaced m.classes (flat_views flats.items) ≡ map (flat_class m.classes) m.classes)
FillsModel m fillings.Unknown = refinements_are_known m ≡ false
FillsModel m fillings.TooMany = flat_is_small m ≡ false

-- The lowest broken rule where those below 29 are kept and the flat model is too large.
abbrev pub rule_of_large : ModelTree → ℕ
rule_of_large m = if refinements_are_known m then if refinements_differ m then 31 else 30 else 29
