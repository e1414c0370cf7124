-- Tables that show charts, class by class, are compiled from them.
use Rattle.std.proofs.Common.{◌≡◌, zero, suc, List, [], ◌∷◌, Option, Some, None, refl, ap, subst}
use Rattle.std.proofs.lemmas.Option.{same_Some}
use Rattle.chart_model.specs.Chart.{Chart}
use Rattle.chart_run.specs.declared.chart_tables.tables.Tables.{Tables}
use Rattle.chart_compile.specs.chart_parts.Compiled.{Compiles}
use Rattle.law_charts.specs.Charts.{ShowsChart, ShowCharts}
use Rattle.law_models.specs.settled_models.Agreeing.{AreCompiled}

one_compiled : (o : Option Tables) (k : Option Chart) (v : Tables) → ShowsChart o k → o ≡ Some v → (chart : Chart) × (k ≡ Some chart) × Compiles v chart
one_compiled None k v shows e = absurd cc
one_compiled (Some u) None v shows e = absurd shows
one_compiled (Some u) (Some chart) v shows e = (chart, refl, subst (λ (z : Tables). Compiles z chart) (same_Some u v e) shows)

pub all_compiled : (classes : List (Option Tables)) (charts : List (Option Chart)) → ShowCharts classes charts → AreCompiled classes charts
all_compiled [] charts shown c v e = absurd cc
all_compiled (o ∷ os) [] shown c v e = absurd shown
all_compiled (o ∷ os) (k ∷ ks) shown zero v e =
    let one = one_compiled o k v shown.0 (same_Some o (Some v) e) in (one.0, ap (λ (z : Option Chart). Some z) one.1, one.2)
all_compiled (o ∷ os) (k ∷ ks) shown (suc c) v e = all_compiled os ks shown.1 c v e
