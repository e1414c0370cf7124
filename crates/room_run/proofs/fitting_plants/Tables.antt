-- Tables that show charts, class by class.
use Rattle.std.proofs.Common.{◌≡◌, ℕ, zero, suc, List, [], ◌∷◌, Option, Some, refl, subst, slice_get}
use Rattle.std.proofs.lemmas.Option.{same_Some}
use Rattle.chart_model.specs.Chart.{Chart}
use Rattle.chart_run.specs.declared.chart_tables.tables.Tables.{Tables}
use Rattle.law_charts.specs.Charts.{ShowsChart, ShowCharts}

-- the chart of a class, whose tables are these
pub record ShownAt (charts : List (Option Chart)) (k : ℕ) (tables : Option Tables) : Type 0 where
  pub chart : Option Chart
  pub is : slice_get charts k ≡ Some chart
  pub shows : ShowsChart tables chart

pub shown_at : (classes : List (Option Tables)) (charts : List (Option Chart)) → ShowCharts classes charts → (k : ℕ) (tables : Option Tables)
    → slice_get classes k ≡ Some tables → ShownAt charts k tables
shown_at [] charts shown k tables e = absurd cc
shown_at (o ∷ os) [] shown k tables e = absurd shown
shown_at (o ∷ os) (c ∷ cs) shown zero tables e =
    record { chart = c; is = refl; shows = subst (λ (z : Option Tables). ShowsChart z c) (same_Some o tables e) shown.0 }
shown_at (o ∷ os) (c ∷ cs) shown (suc k) tables e =
    let later = shown_at os cs shown.1 k tables e in record { chart = later.chart; is = later.is; shows = later.shows }
