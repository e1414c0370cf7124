-- Wirings are well named.
use Rattle.std.proofs.Common.{◌≡◌, List, [], ◌∷◌, None, sym, subst}
use Rattle.std.specs.Prelude.{All}
use Rattle.std.proofs.lemmas.List.Elements.{All-nil, All-cons, All-head, All-tail}
use Rattle.room_ast.specs.Trees.{ModelTree}
use Rattle.room_wiring.specs.WellNamed.{IsIdent, IsPath, NamesDiffer, IsWellNamedClass, IsWellNamed}
use Rattle.room_wiring.specs.declared.names.ClassNames.{ClassNames}
use Rattle.room_wiring.specs.declared.slot.Slot.{Slot}
use Rattle.room_wiring.specs.declared.tables.Tables.{Tables}
use Rattle.structure_check.specs.List.{all_rules}
use Rattle.structure_check.specs.Rules.{first_broken}
use Rattle.wiring_plan.specs.wiring_classes.Classes.{classes_of}
use Rattle.binding_expand.specs.Wirings.{IsWiringOf}
use Rattle.law_models.proofs.wiring_laws.model_paths.Models.{paths_apart, paths_formed}
use Rattle.law_models.specs.wiring_laws.model_names.Ports.{HasWellNamedPorts}
use Rattle.law_models.proofs.wiring_laws.model_names.Models.{classes_named, model_controllers}
use Rattle.law_models.specs.wiring_laws.state_names.States.{HasWellNamedStates}
use Rattle.law_models.proofs.wiring_laws.state_names.Charts.{classes_named as states_named}
use Rattle.law_models.specs.wiring_laws.well_named_wiring.Identifiers.{HasIdentifiers}
use Rattle.law_models.proofs.wiring_laws.well_named_wiring.Kept.{parts, messages, plain}

all_named : (cs : List ClassNames) → All HasWellNamedPorts cs → All HasWellNamedStates cs → All IsWellNamedClass cs
all_named [] h k = All-nil IsWellNamedClass
all_named (c ∷ cs) h k =
    let ports = All-head HasWellNamedPorts c cs h in
    let states = All-head HasWellNamedStates c cs k in
    All-cons IsWellNamedClass c cs (record { ports = ports.ports; ports_differ = ports.differ; states = states.labels; states_differ = states.differ }) (all_named cs (All-tail HasWellNamedPorts c cs h) (All-tail HasWellNamedStates c cs k))

pub well_named : (m : ModelTree) (t : Tables) → first_broken all_rules m ≡ None → HasIdentifiers m → IsWiringOf m t → IsWellNamed t
well_named m t keeps idents is = record {
  controllers = subst (λ cs. All IsIdent cs) (sym is.controllers) (model_controllers m idents.parts);
  paths = subst (λ xs. All (λ (x : Slot). IsPath x.path) xs) (sym is.slots) (paths_formed m (parts m keeps) (plain m keeps) idents.references);
  paths_differ = subst (λ xs. NamesDiffer (λ (x : Slot). x.path) xs) (sym is.slots) (paths_apart m (parts m keeps) (plain m keeps) idents.references);
  classes = subst (λ cs. All IsWellNamedClass cs) (sym is.classes) (all_named (classes_of m) (classes_named m (parts m keeps) (messages m keeps) idents.parts) (states_named m idents.states));
}
