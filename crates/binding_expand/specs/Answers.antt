-- What is answered for a model, and wirings that fit some model.
use Rattle.std.specs.Prelude.{◌≡◌, None, Result, Ok, Err}
use Rattle.room_ast.specs.Trees.{ModelTree}
use Rattle.room_wiring.specs.declared.tables.Tables.{Tables}
use Rattle.structure_check.specs.List.{all_rules}
use Rattle.structure_check.specs.Rules.{first_broken}
use Rattle.binding_expand.specs.Wirings.{IsWiringOf}
use Rattle.binding_expand.specs.Faults.{IsLowestFault, HasNoFault}
use Rattle.binding_expand.specs.declared.fault.ExpandFault.{ExpandFault}
use Rattle.binding_expand.specs.declared.fault.ExpandFault.TheVariants as faults

-- The wiring of a model without a fault, or the lowest fault that the model has, unless memory ran out.
abbrev pub Expands : ModelTree → Result Tables ExpandFault → Type 0
Expands m (Ok t) = IsWiringOf m t × HasNoFault m
Expands m (Err (faults.Wiring fault)) = IsLowestFault m fault
Expands m (Err faults.Memory) = Unit {0}

-- A wiring fits where it is that of some model that keeps all rules and has no fault.
pub record Fits (t : Tables) : Type 0 where
  pub model : ModelTree
  pub keeps : first_broken all_rules model ≡ None
  pub faultless : HasNoFault model
  pub wiring : IsWiringOf model t
