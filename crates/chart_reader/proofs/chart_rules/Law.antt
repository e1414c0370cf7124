-- A chart that keeps the rules is valid.
use Rattle.std.proofs.Common.{◌≡◌, ℕ, true, [], arith}
use Rattle.std.specs.Prelude.{◌&&◌, ◌==◌}
use Rattle.std.specs.List.{list_all, slice_index_or}
use Rattle.std.proofs.lemmas.Bool.{and_parts}
use Rattle.std.proofs.lemmas.Bool.Decides.{nat_tests}
use Rattle.std.proofs.lemmas.List.Sums.{AllPass-from_list_all}
use Rattle.name_tables.specs.distinct_names.Distinct.{is_distinct}
use Rattle.name_tables.proofs.distinct_names.Laws.{fact_of}
use Rattle.chart_model.specs.Chart.{Chart, Graph}
use Rattle.chart_model.specs.Named.{Node}
use Rattle.chart_model.specs.Valid.{names_in, is_right_transition, goes_on_once, initials_at, HasRightNames, LeadsTo, IsValid}
use Rattle.chart_reader.specs.chart_rules.Rules.{nests_within, graph_has_right_names, has_right_names, has_one_initial_at_most, graph_begins_inside, has_initials, has_defaults}

is_one : (n : ℕ) → (n == 1) ≡ true → n ≡ 1
is_one n h = grind (arith, nat_tests)

right_names : (chart : Chart) (g : Graph) → graph_has_right_names chart g ≡ true → HasRightNames chart g
right_names chart g h =
    let a = and_parts (is_distinct (names_in g)) (list_all (is_right_transition chart g) g.transitions && list_all (goes_on_once chart g.owner) g.points) h in
    let b = and_parts (list_all (is_right_transition chart g) g.transitions) (list_all (goes_on_once chart g.owner) g.points) a.1 in
    record { distinct = fact_of (names_in g) a.0; transitions = b.0; points = b.1 }

pub is_valid : (chart : Chart) → nests_within chart ≡ true → has_right_names chart ≡ true → has_one_initial_at_most chart ≡ true → has_initials chart ≡ true → has_defaults chart ≡ true → ((n : Node) → LeadsTo chart n n → ⊥) → IsValid chart
unfolding nests_within has_right_names has_one_initial_at_most has_initials has_defaults
is_valid chart shallow names one initials defaults none =
    let parts = and_parts (initials_at chart [] == 1) (list_all (graph_begins_inside chart) chart.graphs) initials in
    record {
      shallow = shallow;
      names = λ k d lt. right_names chart (slice_index_or chart.graphs k d) (AllPass-from_list_all (graph_has_right_names chart) chart.graphs names k d lt);
      one_initial_at_most = one;
      top_initial = is_one (initials_at chart []) parts.0;
      inner_initials = parts.1;
      defaults = defaults;
      no_circle = none;
    }
