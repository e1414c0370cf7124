-- Tables that show a chart whose programs send at priorities 1 to 5 alone do so too.
use Rattle.std.proofs.Common.{◌≡◌, inl, inr, ℕ, ◌<◌, Bool, List, [], ◌∷◌, ◌++◌, length, map, Option, Some, None, refl, sym, subst}
use Rattle.std.specs.List.{AllByRecursion as Each, filter}
use Rattle.std.specs.Option.{option_map_or}
use Rattle.std.proofs.lemmas.Option.{slice_get_cases}
use Rattle.action_program.specs.Numbered.{no_stmt, program_view}
use Rattle.chart_model.specs.chart_plan.Plan.{Kind, Border, Choice, Entry, Exit}
use Rattle.chart_model.specs.chart_plan.Same.{Each as EachSame, none, more, SameKind, simple, border, choice, entry, exit}
use Rattle.chart_model.specs.Chart.{Path, Source, Transition, State, Graph, Chart}
use Rattle.chart_model.specs.Named.{same_name, same_path, first, Placed, Node, a_state, a_choice, an_entry, an_exit, graph_at, state_at, from, is_initial, is_from_state, is_from_point, is_from_choice, is_from_entry, is_from_exit, tried, by_first, has_condition, has_none, outside, kind_of, plan_of}
use Rattle.chart_run.specs.chart_tables.Tables.{ArrowTree, arrow_view, arrow_views, graph_arrows, row_at, plan}
use Rattle.chart_run.specs.declared.chart_tables.tables.Row.{Row}
use Rattle.chart_run.specs.declared.chart_tables.tables.Tables.{Tables}
use Rattle.chart_run.specs.ByName.{Names, IsPath, IsTransition, Shows}
use Rattle.law_models.specs.settled_models.Open.{is_worded}
use Rattle.chart_behaviour.specs.chart_asks.Asking.{ProgramAsks, ArrowAsks, GoesOn, TablesAsk}
use Rattle.law_models.proofs.class_laws.Charts.{each_both}
use Rattle.law_models.proofs.settled_models.Charts.{StateWorded, TransitionWorded, GraphWorded, ChartWorded}
use Rattle.law_models.proofs.class_laws.Plans.{found_like, kept_like}

abbrev pub PlacedWorded : Placed → Type 0
PlacedWorded t = TransitionWorded t.transition

-- ---- the plan of a chart

module _ (chart : Chart) (quiet : ChartWorded chart) where
  graph_worded : (path : Path) (g : Graph) → graph_at chart path ≡ Some g → GraphWorded g
  graph_worded path g e = found_like GraphWorded (λ x. same_path x.owner path) chart.graphs g quiet e

  state_worded : (path : Path) (s : State) → state_at chart path ≡ Some s → StateWorded s
  state_worded [] s e = absurd cc
  state_worded (n ∷ owner) s e = by_graph (graph_at chart owner) refl e
    where
      by_graph : (o : Option Graph) → graph_at chart owner ≡ o → option_map_or (λ (g : Graph). first (λ (d : State). same_name d.name n) g.states) o None ≡ Some s → StateWorded s
      by_graph None at k = absurd cc
      by_graph (Some g) at k = found_like StateWorded (λ (d : State). same_name d.name n) g.states s (graph_worded owner g at).0 k

  entry_worded : (path : Path) → ProgramAsks is_worded ((plan_of chart).entry path)
  entry_worded path = by_state (state_at chart path) refl
    where
      by_state : (o : Option State) → state_at chart path ≡ o → ProgramAsks is_worded (option_map_or (λ (s : State). s.entry) o no_stmt)
      by_state None at = tt
      by_state (Some s) at = (state_worded path s at).0

  exit_worded : (path : Path) → ProgramAsks is_worded ((plan_of chart).exit path)
  exit_worded path = by_state (state_at chart path) refl
    where
      by_state : (o : Option State) → state_at chart path ≡ o → ProgramAsks is_worded (option_map_or (λ (s : State). s.exit) o no_stmt)
      by_state None at = tt
      by_state (Some s) at = (state_worded path s at).1

  placed_worded : (path : Path) (ts : List Transition) → Each TransitionWorded ts → Each PlacedWorded (map (λ (t : Transition). let p : Placed = record { graph = path; transition = t } in p) ts)
  placed_worded path [] h = tt
  placed_worded path (t ∷ ts) h = (h.0, placed_worded path ts h.1)

  pub from_worded : (test : Source → Bool) (path : Path) → Each PlacedWorded (from test chart path)
  from_worded test path = by_graph (graph_at chart path) refl
    where
      by_graph : (o : Option Graph) → graph_at chart path ≡ o
          → Each PlacedWorded (map (λ (t : Transition). let p : Placed = record { graph = path; transition = t } in p) (filter (λ (t : Transition). test t.source) (option_map_or (λ (g : Graph). g.transitions) o [])))
      by_graph None at = tt
      by_graph (Some g) at = placed_worded path (filter (λ (t : Transition). test t.source) g.transitions) (kept_like TransitionWorded (λ (t : Transition). test t.source) g.transitions (graph_worded path g at).1)

  tried_worded : (path : Path) → Each PlacedWorded (tried chart path)
  tried_worded [] = tt
  tried_worded (s ∷ owner) = each_both PlacedWorded (from (is_from_state s) chart owner) (from is_from_point chart owner) (from_worded (is_from_state s) owner) (from_worded is_from_point owner)

  first_worded : (path : Path) (make : Placed → Kind Path Placed) (ts : List Placed) → ((t : Placed) → PlacedWorded t → GoesOn PlacedWorded (make t)) → Each PlacedWorded ts → GoesOn PlacedWorded (by_first path make ts)
  first_worded path make [] each h = tt
  first_worded path make (t ∷ ts) each h = each t h.0

  node_worded : (n : Node) → GoesOn PlacedWorded (kind_of chart n)
  node_worded (a_state path) = first_worded path (λ t. Border path t) (from is_initial chart path) (λ t h. h) (from_worded is_initial path)
  node_worded (a_choice graph c) =
      let branches = from_worded (is_from_choice c) graph in
      first_worded graph (λ d. Choice (filter has_condition (from (is_from_choice c) chart graph)) d) (filter has_none (from (is_from_choice c) chart graph))
      (λ t h. (kept_like PlacedWorded has_condition (from (is_from_choice c) chart graph) branches, h))
      (kept_like PlacedWorded has_none (from (is_from_choice c) chart graph) branches)
  node_worded (an_entry owner e) = first_worded owner (λ t. Entry owner t) (from (is_from_entry e) chart owner) (λ t h. h) (from_worded (is_from_entry e) owner)
  node_worded (an_exit [] x) = tt
  node_worded (an_exit (s ∷ owner) x) = first_worded (s ∷ owner) (λ t. Exit (s ∷ owner) t) (from (is_from_exit x s) chart owner) (λ t h. h) (from_worded (is_from_exit x s) owner)

  -- ---- tables that show it

  module _ (v : Tables) (names : Names) (shows : Shows v names chart) where
    arrow_worded : (a : ArrowTree) (t : Placed) → IsTransition names a t → PlacedWorded t → ArrowAsks is_worded a
    arrow_worded a t is h = subst (ProgramAsks is_worded) (sym is.action) h

    arrows_worded : (arrows : List ArrowTree) (ts : List Placed) → EachSame (IsTransition names) arrows ts → Each PlacedWorded ts → Each (ArrowAsks is_worded) arrows
    arrows_worded _ _ none h = tt
    arrows_worded _ _ (more {x} {y} {xs} {ys} r rs) h = (arrow_worded x y r h.0, arrows_worded xs ys rs h.1)

    kind_worded : (k : Kind ℕ ArrowTree) (l : Kind Path Placed) → SameKind (IsPath (length v.states.items) names) (IsTransition names) k l → GoesOn PlacedWorded l → GoesOn (ArrowAsks is_worded) k
    kind_worded _ _ (simple r) h = tt
    kind_worded _ _ (border {s} {s'} {t} {t'} r q) h = arrow_worded t t' q h
    kind_worded _ _ (choice {ts} {ts'} {t} {t'} rs q) h = (arrows_worded ts ts' rs h.0, arrow_worded t t' q h.1)
    kind_worded _ _ (entry {s} {s'} {t} {t'} r q) h = arrow_worded t t' q h
    kind_worded _ _ (exit {s} {s'} {t} {t'} r q) h = arrow_worded t t' q h

    -- a state that the tables have is one of the chart
    is_path : (s : ℕ) → s < length v.states.items → IsPath (length v.states.items) names s (names.paths s)
    is_path s there = record { known = there; is = refl }

    by_number : (Q : ℕ → Type 0) → ((s : ℕ) → s < length v.states.items → Q s) → ((s : ℕ) → row_at v s ≡ None → Q s) → (s : ℕ) → Q s
    by_number Q inside outside s = elim (slice_get_cases v.states.items s).1 [
      | inl x ↦ inside s x.1
      | inr past ↦ outside s past.1
    ]

    pub tables_worded : (start : Placed) → IsTransition names (arrow_view v.initial) start → PlacedWorded start → TablesAsk is_worded v
    tables_worded start begins open_start = record {
      entry = by_number (λ s. ProgramAsks is_worded ((plan v).entry s))
          (λ s there. subst (ProgramAsks is_worded) (sym (shows.entry s (names.paths s) (is_path s there))) (entry_worded (names.paths s)))
          (λ s past. subst (λ (o : Option Row). ProgramAsks is_worded (option_map_or (λ (r : Row). program_view r.entry) o no_stmt)) (sym past) tt);
      exit = by_number (λ s. ProgramAsks is_worded ((plan v).exit s))
          (λ s there. subst (ProgramAsks is_worded) (sym (shows.exit s (names.paths s) (is_path s there))) (exit_worded (names.paths s)))
          (λ s past. subst (λ (o : Option Row). ProgramAsks is_worded (option_map_or (λ (r : Row). program_view r.exit) o no_stmt)) (sym past) tt);
      tried = by_number (λ s. Each (ArrowAsks is_worded) ((plan v).tried s))
          (λ s there. arrows_worded ((plan v).tried s) (tried chart (names.paths s)) (shows.tried s (names.paths s) (is_path s there)) (tried_worded (names.paths s)))
          (λ s past. no_row (row_at v s) past);
      nodes = λ n. kind_worded ((plan v).node n) (kind_of chart (names.nodes n)) (shows.node n (names.nodes n) (record { is = refl })) (node_worded (names.nodes n));
      initial = arrow_worded (arrow_view v.initial) start begins open_start;
    }
      where
        no_row : (o : Option Row) → o ≡ None → Each (ArrowAsks is_worded) (option_map_or (λ (r : Row). arrow_views r.own.items) o [] ++ option_map_or (λ (r : Row). graph_arrows v r.graph) o [])
        no_row None e = tt
        no_row (Some r) e = absurd cc
