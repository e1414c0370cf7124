-- The charts of a model send at priorities 1 to 5 alone.
use Rattle.std.proofs.Common.{◌≡◌, ℕ, zero, suc, List, [], ◌∷◌, map, Option, Some, None, option_map, slice_get, sym, subst}
use Rattle.std.specs.List.{AllByRecursion as Each}
use Rattle.std.proofs.lemmas.Option.{same_Some}
use Rattle.room_ast.specs.declared.scope.Scope.{Scope}
use Rattle.room_ast.specs.ChartTree.{GraphItems}
use Rattle.room_ast.specs.Trees.{ActorTree}
use Rattle.room_ast.specs.model_parts.Charts.{chart_of as machine_of}
use Rattle.room_ast.specs.model_parts.Classes.{actors}
use Rattle.chart_model.specs.Chart.{Name, Chart}
use Rattle.chart_reader.specs.model_charts.Charts.{chart_in}
use Rattle.chart_reader.specs.model_charts.Written.{written, names_after, written_from}
use Rattle.chart_behaviour.specs.Asked.{is_open}
use Rattle.chart_behaviour.specs.sends.Sends.{is_ranked}
use Rattle.law_models.specs.settled_models.Open.{ChartsAreOpen, ChartsAreRanked, ChartsSendWorded, is_worded}
use Rattle.law_models.proofs.settled_models.Weaker.{tables_weaker, worded_open, worded_ranked}
use Rattle.law_models.proofs.settled_models.Charts.{ChartWorded, chart_worded}
use Rattle.chart_model.specs.Named.{is_initial}
use Rattle.chart_run.specs.declared.chart_tables.tables.Tables.{Tables}
use Rattle.chart_behaviour.specs.chart_asks.Asking.{TablesAsk}
use Rattle.chart_compile.specs.chart_parts.Compiled.{Compiles}
use Rattle.law_models.proofs.settled_models.Plans.{PlacedWorded, from_worded, tables_worded}

-- the chart of a class, if it has one
abbrev ClassWorded : Option Chart → Type 0
ClassWorded None = Unit {0}
ClassWorded (Some chart) = ChartWorded chart

one_worded : (scope : Scope) (names : List Name) (o : Option GraphItems) → ClassWorded (chart_in (option_map (written scope names) o))
one_worded scope names None = tt
one_worded scope names (Some is) = chart_worded scope names is

all_worded : (names : List Name) (scopes : List Scope) (classes : List ActorTree) → Each ClassWorded (map chart_in (written_from names scopes classes))
all_worded names [] classes = tt
all_worded names (s ∷ ss) [] = tt
all_worded names (s ∷ ss) (a ∷ others) = (one_worded s names (machine_of a), all_worded (names_after s names (machine_of a)) ss others)

worded_at : (charts : List (Option Chart)) (c : ℕ) (o : Option Chart) → Each ClassWorded charts → slice_get charts c ≡ Some o → ClassWorded o
worded_at [] c o h e = absurd cc
worded_at (x ∷ xs) zero o h e = subst ClassWorded (same_Some x o e) h.0
worded_at (x ∷ xs) (suc c) o h e = worded_at xs c o h.1 e

-- tables that are compiled from a chart
compiled_worded : (chart : Chart) → ChartWorded chart → (v : Tables) → Compiles v chart → TablesAsk is_worded v
compiled_worded chart quiet v c =
    let starts = subst (Each PlacedWorded) c.starts.1 (from_worded chart quiet is_initial []) in
    tables_worded chart quiet v c.names c.shows c.start c.initial starts.0

pub models_worded : ChartsSendWorded
models_worded m charts has c chart v at compiles =
    let read = subst (λ ws. Each ClassWorded (map chart_in ws)) (sym has.written.written) (all_worded [] has.written.scopes (actors m)) in
    let all = subst (Each ClassWorded) (sym has.charts_are) read in
    compiled_worded chart (worded_at charts c (Some chart) all at) v compiles

-- and so at no priority of the system
pub models_open : ChartsAreOpen
models_open m charts has c chart v at compiles = tables_weaker is_worded is_open worded_open v (models_worded m charts has c chart v at compiles)

-- but at one of the six priorities
pub models_ranked : ChartsAreRanked
models_ranked m charts has c chart v at compiles = tables_weaker is_worded is_ranked worded_ranked v (models_worded m charts has c chart v at compiles)
