-- What a check answers.
use Rattle.std.specs.Prelude.{◌≡◌, Some, None, Result, Ok, Err}
use Rattle.room_ast.specs.Trees.{ModelTree, model_view}
use Rattle.structure_check.specs.Rules.{first_broken, IsLowest}
use Rattle.structure_check.specs.Classes.{HasClasses}
use Rattle.structure_check.specs.List.{rule_of, all_rules}
use Rattle.structure_check.specs.declared.checked_model.Checked.{Checked}
use Rattle.structure_check.specs.declared.fault.CheckFault.{CheckFault}
use Rattle.structure_check.specs.declared.fault.CheckFault.TheVariants as faults

-- Ok exactly where no rule is broken, and then the model is the one that was checked, with its actor classes; else the lowest rule that is broken.
abbrev pub IsChecked : ModelTree → Result Checked CheckFault → Type 0
IsChecked m (Ok checked) = (first_broken all_rules m ≡ None) × (model_view checked.model.now ≡ m) × HasClasses checked
IsChecked m (Err (faults.Rule r)) = first_broken all_rules m ≡ Some (rule_of r).number
IsChecked m (Err faults.Memory) = Unit {0}

-- What is told is the lowest rule that is broken, and nothing is told where none is.
abbrev pub TellsLowest : ModelTree → Result Checked CheckFault → Type 0
TellsLowest m (Ok checked) = IsLowest all_rules m None
TellsLowest m (Err (faults.Rule r)) = IsLowest all_rules m (Some (rule_of r).number)
TellsLowest m (Err faults.Memory) = Unit {0}
