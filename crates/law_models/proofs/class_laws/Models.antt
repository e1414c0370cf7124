-- The charts of a model's classes name what their classes have.
use Rattle.std.proofs.Common.{◌≡◌, ◌∙◌, ℕ, zero, suc, List, [], ◌∷◌, map, Option, Some, None, option_map, slice_get, refl, sym, ap, subst}
use Rattle.std.proofs.lemmas.Option.{same_Some, slice_get-map}
use Rattle.room_ast.specs.declared.scope.Scope.{Scope}
use Rattle.room_ast.specs.ChartTree.{GraphItems}
use Rattle.room_ast.specs.Trees.{ModelTree, ActorTree}
use Rattle.room_ast.specs.model_parts.Charts.{chart_of as machine_of}
use Rattle.room_ast.specs.model_parts.Classes.{actors}
use Rattle.room_wiring.specs.declared.names.ClassNames.{ClassNames}
use Rattle.check_scopes.specs.class_scopes.Scopes.{scope_of}
use Rattle.check_scopes.specs.class_scopes.Views.{scope_view}
use Rattle.wiring_plan.specs.wiring_classes.Classes.{class_names, classes_of}
use Rattle.chart_model.specs.Chart.{Name, Chart}
use Rattle.chart_reader.specs.model_charts.Charts.{HasFault, NoneIsFaulty, HasCharts, chart_in}
use Rattle.chart_reader.specs.model_charts.Written.{written, names_after, written_from}
use Rattle.chart_run.specs.declared.chart_tables.tables.Tables.{Tables}
use Rattle.chart_behaviour.specs.Asked.{is_open}
use Rattle.chart_behaviour.specs.chart_asks.Asking.{TablesAsk}
use Rattle.chart_compile.specs.chart_parts.Compiled.{Compiles}
use Rattle.law_models.specs.class_laws.Commands.{ActorsAskWhatTheyCan}
use Rattle.law_models.specs.class_laws.Laws.{ChartsNameTheirClass, TablesNameTheirClass}
use Rattle.law_models.specs.class_laws.Programs.{ChartNames}
use Rattle.law_models.proofs.class_laws.Asking.{actors_ask, tables_open}
use Rattle.law_models.proofs.class_laws.Charts.{chart_named}
use Rattle.law_models.proofs.class_laws.Classes.{scope_fits}
use Rattle.law_models.proofs.class_laws.Plans.{compiled_name}

-- the class with a number, and what its text writes: a chart without a fault, or none
pub record ClassAt (m : ModelTree) (classes : List ActorTree) (k : ℕ) (chart : Option Chart) : Type 0 where
  pub actor : ActorTree
  pub actor_is : slice_get classes k ≡ Some actor
  pub scope : Scope
  pub seen : scope_view scope ≡ scope_of m actor
  pub names : List Name
  pub chart_is : chart_in (option_map (written scope names) (machine_of actor)) ≡ chart
  pub faultless : HasFault (option_map (written scope names) (machine_of actor)) None

heads : {X : Type 0} (x y : X) (xs ys : List X) → x ∷ xs ≡ y ∷ ys → x ≡ y
heads x y xs ys e = cc

tails : {X : Type 0} (x y : X) (xs ys : List X) → x ∷ xs ≡ y ∷ ys → xs ≡ ys
tails x y xs ys e = cc

class_from : (m : ModelTree) (scopes : List Scope) (classes : List ActorTree) (names : List Name) → map scope_view scopes ≡ map (scope_of m) classes
    → NoneIsFaulty (written_from names scopes classes)
    → (k : ℕ) (chart : Option Chart) → slice_get (map chart_in (written_from names scopes classes)) k ≡ Some chart → ClassAt m classes k chart
class_from m [] classes names seen clear k chart e = absurd cc
class_from m (s ∷ ss) [] names seen clear k chart e = absurd cc
class_from m (s ∷ ss) (a ∷ others) names seen clear zero chart e = record {
  actor = a;
  actor_is = refl;
  scope = s;
  seen = heads (scope_view s) (scope_of m a) (map scope_view ss) (map (scope_of m) others) seen;
  names = names;
  chart_is = same_Some (chart_in (option_map (written s names) (machine_of a))) chart e;
  faultless = clear.0;
}
class_from m (s ∷ ss) (a ∷ others) names seen clear (suc k) chart e =
    let later = class_from m ss others (names_after s names (machine_of a)) (tails (scope_view s) (scope_of m a) (map scope_view ss) (map (scope_of m) others) seen) clear.1 k chart e in
    record { actor = later.actor; actor_is = later.actor_is; scope = later.scope; seen = later.seen; names = later.names; chart_is = later.chart_is; faultless = later.faultless }

-- the class with a number of a model whose charts have no fault
pub class_at : (m : ModelTree) (charts : List (Option Chart)) → HasCharts m charts → (k : ℕ) (chart : Option Chart) → slice_get charts k ≡ Some chart → ClassAt m (actors m) k chart
class_at m charts has k chart at =
    class_from m has.written.scopes (actors m) [] has.written.seen (subst NoneIsFaulty has.written.written has.faultless) k chart
    (subst (λ ws. slice_get (map chart_in ws) k ≡ Some chart) has.written.written (subst (λ cs. slice_get cs k ≡ Some chart) has.charts_are at))

-- the names that the wiring has of it
pub class_is : (m : ModelTree) (k : ℕ) (a : ActorTree) (c : ClassNames) → slice_get (actors m) k ≡ Some a → slice_get (classes_of m) k ≡ Some c → class_names m a ≡ c
unfolding classes_of
class_is m k a c at is = same_Some (class_names m a) c (sym (slice_get-map (class_names m) (actors m) k ∙ ap (option_map (class_names m)) at) ∙ is)

-- ---- what its chart names

one_chart : (m : ModelTree) (k : ℕ) (chart : Chart) (x : ClassAt m (actors m) k (Some chart)) → ChartNames (class_names m x.actor) chart
one_chart m k chart x = by_machine (machine_of x.actor) x.chart_is x.faultless
  where
    by_machine : (o : Option GraphItems) → chart_in (option_map (written x.scope x.names) o) ≡ Some chart → HasFault (option_map (written x.scope x.names) o) None
        → ChartNames (class_names m x.actor) chart
    by_machine None is clear = absurd cc
    by_machine (Some items) is clear =
        subst (ChartNames (class_names m x.actor)) (same_Some (written x.scope x.names items).chart chart is)
        (chart_named x.scope (class_names m x.actor) (scope_fits m x.actor x.scope x.seen) x.names items clear.2)

pub charts_name : ChartsNameTheirClass
charts_name m charts has k c chart there at =
    let x = class_at m charts has k (Some chart) at in
    subst (λ d. ChartNames d chart) (class_is m k x.actor c x.actor_is there) (one_chart m k chart x)

pub tables_name : TablesNameTheirClass
tables_name m charts has k c chart v there at compiles = compiled_name c chart (charts_name m charts has k c chart there at) v compiles

-- ---- what its actors ask for

pub actors_can : ActorsAskWhatTheyCan
actors_can m charts has k c chart v there at compiles = actors_ask c v (tables_name m charts has k c chart v there at compiles)

-- so nothing is sent at the system's priority
pub model_open : (m : ModelTree) (charts : List (Option Chart)) → HasCharts m charts → (k : ℕ) (chart : Chart) (v : Tables) → slice_get charts k ≡ Some (Some chart)
    → Compiles v chart → TablesAsk is_open v
model_open m charts has k chart v at compiles =
    let x = class_at m charts has k (Some chart) at in
    tables_open (class_names m x.actor) v (compiled_name (class_names m x.actor) chart (one_chart m k chart x) v compiles)
