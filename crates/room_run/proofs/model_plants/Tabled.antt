-- Charts and their tables, class by class.
use Rattle.std.proofs.Common.{◌≡◌, ℕ, zero, suc, ◌+◌, ◌<◌, List, [], ◌∷◌, ◌++◌, length, map, take, get_or, Option, Some, None, option_map, slice_get, sym, subst, arith}
use Rattle.std.proofs.lemmas.Option.{same_Some}
use Rattle.chart_trees.specs.chart_graphs.Views.{chart_view}
use Rattle.chart_trees.specs.declared.chart_graphs.Chart.{Chart as CodeChart}
use Rattle.chart_model.specs.Chart.{Chart}
use Rattle.chart_run.specs.chart_tables.Tables.{IsSound}
use Rattle.chart_run.specs.declared.chart_tables.tables.Tables.{Tables}
use Rattle.chart_reader.specs.model_charts.Charts.{AreValid}
use Rattle.law_charts.specs.Charts.{ShowsChart, ShowCharts}
use Rattle.room_run.specs.model_plants.Shown.{IsValidIfAny}

abbrev view : Option CodeChart → Option Chart
view = option_map chart_view

first_valid : (c : Option Chart) (cs : List (Option Chart)) → AreValid (c ∷ cs) → IsValidIfAny c × AreValid cs
first_valid None cs h = (tt, h)
first_valid (Some c) cs h = h

-- each of valid charts is valid
pub valid_at : (charts : List (Option CodeChart)) (i : ℕ) (x : Option CodeChart) → AreValid (map (option_map chart_view) charts) → i < length charts → x ≡ get_or charts i x → IsValidIfAny (option_map chart_view x)
valid_at [] i x valid less is = absurd (omega (arith, less))
valid_at (c ∷ cs) zero x valid less is = subst (λ y. IsValidIfAny (view y)) (sym is) (first_valid (view c) (map view cs) valid).0
valid_at (c ∷ cs) (suc i) x valid less is = valid_at cs i x (first_valid (view c) (map view cs) valid).1 (omega (arith, less)) is

-- one class more
pub one_more : (charts : List (Option CodeChart)) (tables : List (Option Tables)) (i : ℕ) (x : Option CodeChart) (t : Option Tables) → ShowCharts tables (map (option_map chart_view) (take i charts)) → i < length charts → x ≡ get_or charts i x → ShowsChart t (option_map chart_view x)
    → ShowCharts (tables ++ t ∷ []) (map (option_map chart_view) (take (i + 1) charts))
one_more charts tables i x t shown less is shows = let next : suc i ≡ i + 1 = omega arith in subst (λ n. ShowCharts (tables ++ t ∷ []) (map view (take n charts))) next (go charts tables i shown less is)
  where
    go : (cs : List (Option CodeChart)) (ts : List (Option Tables)) (k : ℕ) → ShowCharts ts (map view (take k cs)) → k < length cs → x ≡ get_or cs k x → ShowCharts (ts ++ t ∷ []) (map view (take (suc k) cs))
    go [] ts k all small at = absurd (omega (arith, small))
    go (c ∷ cs) [] zero all small at = (subst (λ y. ShowsChart t (view y)) at shows, tt)
    go (c ∷ cs) (u ∷ us) zero all small at = absurd all
    go (c ∷ cs) [] (suc k) all small at = absurd all
    go (c ∷ cs) (u ∷ us) (suc k) all small at = (all.0, go cs us k all.1 (omega (arith, small)) at)

sound_of : (t : Option Tables) (c : Option Chart) (v : Tables) → ShowsChart t c → t ≡ Some v → IsSound v
sound_of None c v shows e = absurd cc
sound_of (Some w) None v shows e = absurd shows
sound_of (Some w) (Some c) v shows e = subst IsSound (same_Some w v e) shows.sound

-- tables that show charts are sound
pub all_sound : (tables : List (Option Tables)) (charts : List (Option Chart)) → ShowCharts tables charts → (class : ℕ) (v : Tables) → slice_get tables class ≡ Some (Some v) → IsSound v
all_sound [] charts shown class v e = absurd cc
all_sound (t ∷ ts) [] shown class v e = absurd shown
all_sound (t ∷ ts) (c ∷ cs) shown zero v e = sound_of t c v shown.0 (same_Some t (Some v) e)
all_sound (t ∷ ts) (c ∷ cs) shown (suc k) v e = all_sound ts cs shown.1 k v e
