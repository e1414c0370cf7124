-- The charts of a model.
use Rattle.std.proofs.Common.{◌≡◌, Bool, true, false, cond, List, [], ◌∷◌, length, Option, Some, None, refl, subst, arith}
use Rattle.std.specs.Prelude.{All, option_map}
use Rattle.std.proofs.lemmas.List.Elements.{All-nil, All-cons}
use Rattle.room_ast.specs.ChartTree.{GraphItems}
use Rattle.room_ast.specs.Tokens.{model_tokens}
use Rattle.room_ast.specs.Trees.{ModelTree, ActorTree}
use Rattle.room_ast.specs.declared.scope.Scope.{Scope}
use Rattle.room_wiring.specs.WellNamed.{IsWellNamed}
use Rattle.room_wiring.specs.declared.tables.Tables.{Tables}
use Rattle.structure_check.specs.List.{all_rules}
use Rattle.structure_check.specs.Rules.{first_broken}
use Rattle.room_tokens.specs.token_names.Names.{HasNames}
use Rattle.room_ast.specs.model_parts.Charts.{chart_of as machine_of}
use Rattle.room_ast.specs.model_parts.Classes.{actors}
use Rattle.check_scopes.specs.class_scopes.Scopes.{scope_of}
use Rattle.chart_model.specs.Chart.{Name, Chart}
use Rattle.chart_reader.specs.chart_rules.Rules.{nests_within, has_right_names, has_one_initial_at_most, has_initials, has_defaults}
use Rattle.chart_reader.specs.Faults.{names_fault}
use Rattle.chart_reader.specs.declared.fault.ChartFault.{ChartFault}
use Rattle.chart_reader.specs.declared.fault.ChartFault.TheVariants as faults
use Rattle.chart_reader.specs.model_charts.Written.{written, names_after, written_from}
use Rattle.chart_reader.specs.model_charts.Charts.{HasFault, NoneIsFaulty, HasCharts}
use Rattle.chart_reader.proofs.model_charts.Steps.{as_many}
use Rattle.binding_expand.specs.Wirings.{IsWiringOf}
use Rattle.law_models.specs.wiring_laws.read_wirings.Differ.{ChartDiffers, StatesDiffer}
use Rattle.law_models.proofs.wiring_laws.read_wirings.States.{read_well_named}
use Rattle.law_models.proofs.wiring_laws.chart_state_names.Reading.{chart_differs}

second_kept : (a b : Bool) (o : Option ChartFault) → cond a (cond b o (Some faults.BadPoint)) (Some faults.DepthAbove16) ≡ None → b ≡ true
second_kept true true o e = refl
second_kept true false o e = absurd cc
second_kept false b o e = absurd cc

right_names : (chart : Chart) → names_fault chart ≡ None → has_right_names chart ≡ true
unfolding names_fault
right_names chart e =
    second_kept (nests_within chart) (has_right_names chart)
    (cond (has_one_initial_at_most chart) (cond (has_initials chart) (cond (has_defaults chart) None (Some faults.NoDefault)) (Some faults.NoInitial)) (Some faults.TwoInitials)) e

one_class : (s : Scope) (names : List Name) (o : Option GraphItems) → HasFault (option_map (written s names) o) None → ChartDiffers o
one_class s names None h = tt
one_class s names (Some is) h = chart_differs s names is (right_names (written s names is).chart h.0)

abbrev Differ : ActorTree → Type 0
Differ a = ChartDiffers (machine_of a)

all_classes : (names : List Name) (ss : List Scope) (ks : List ActorTree) → length ss ≡ length ks → NoneIsFaulty (written_from names ss ks) → All Differ ks
all_classes names [] [] same h = All-nil Differ
all_classes names [] (a ∷ ks) same h = absurd (omega arith)
all_classes names (s ∷ ss) [] same h = absurd (omega arith)
all_classes names (s ∷ ss) (a ∷ ks) same h = All-cons Differ a ks (one_class s names (machine_of a) h.0) (all_classes (names_after s names (machine_of a)) ss ks (omega arith) h.1)

pub states_differ : (m : ModelTree) (charts : List (Option Chart)) → HasCharts m charts → StatesDiffer m
states_differ m charts h = record {
  charts = all_classes [] h.written.scopes (actors m) (as_many (scope_of m) h.written.scopes (actors m) h.written.seen) (subst NoneIsFaulty h.written.written h.faultless);
}

pub sound_well_named : (m : ModelTree) (t : Tables) (charts : List (Option Chart)) → first_broken all_rules m ≡ None → HasNames (model_tokens m) → HasCharts m charts → IsWiringOf m t → IsWellNamed t
sound_well_named m t charts keeps names h is = read_well_named m t keeps names (states_differ m charts h) is
