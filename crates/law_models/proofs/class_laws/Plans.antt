-- Tables that show a chart name what the chart names.
use Rattle.std.proofs.Common.{◌≡◌, inl, inr, ℕ, ◌<◌, Bool, true, false, cond, List, [], ◌∷◌, ◌++◌, length, map, Option, Some, None, refl, sym, subst}
use Rattle.std.specs.List.{AllByRecursion as Each, filter}
use Rattle.std.specs.Option.{option_map_or}
use Rattle.std.proofs.lemmas.Option.{same_Some, slice_get_cases}
use Rattle.room_wiring.specs.declared.names.ClassNames.{ClassNames}
use Rattle.action_program.specs.Numbered.{Stmts, no_stmt, program_view}
use Rattle.chart_model.specs.chart_plan.Plan.{Kind, Border, Choice, Entry, Exit}
use Rattle.chart_model.specs.chart_plan.Same.{Each as EachSame, none, more, SameKind, simple, border, choice, entry, exit}
use Rattle.chart_model.specs.Chart.{Path, Source, Transition, State, Graph, Chart}
use Rattle.chart_model.specs.Named.{same_name, same_path, first, Placed, Node, a_state, a_choice, an_entry, an_exit, graph_at, state_at, from, is_initial, is_from_state, is_from_point, is_from_choice, is_from_entry, is_from_exit, tried, by_first, has_condition, has_none, outside, kind_of, plan_of}
use Rattle.chart_run.specs.chart_tables.Tables.{ArrowTree, arrow_view, arrow_views, graph_arrows, row_at, plan}
use Rattle.chart_run.specs.declared.chart_tables.tables.Row.{Row}
use Rattle.chart_run.specs.declared.chart_tables.tables.Tables.{Tables}
use Rattle.chart_run.specs.ByName.{Names, IsPath, IsTransition, Shows}
use Rattle.chart_behaviour.specs.chart_asks.Asking.{GoesOn}
use Rattle.chart_compile.specs.chart_parts.Compiled.{Compiles}
use Rattle.law_models.specs.class_laws.Programs.{IfAnyNames, ProgramNames, TriggerNames, StateNames, TransitionNames, GraphNames, ChartNames, ArrowNames, TablesName, numbers_of}
use Rattle.law_models.proofs.class_laws.Charts.{each_both}

-- what is found first in a list is like all in it
pub found_like : {X : Type 0} (P : X → Type 0) (test : X → Bool) (xs : List X) (x : X) → Each P xs → first test xs ≡ Some x → P x
found_like P test [] x h e = absurd cc
found_like {X} P test (y ∷ ys) x h e = pick (test y) (found_like P test ys x h.1) e
  where
    pick : (b : Bool) → (first test ys ≡ Some x → P x) → cond b (Some y) (first test ys) ≡ Some x → P x
    pick true next k = subst P (same_Some y x k) h.0
    pick false next k = next k

pub kept_like : {X : Type 0} (P : X → Type 0) (test : X → Bool) (xs : List X) → Each P xs → Each P (filter test xs)
kept_like P test [] h = tt
kept_like {X} P test (x ∷ xs) h = pick (test x) (kept_like P test xs h.1)
  where
    pick : (b : Bool) → Each P (filter test xs) → Each P (cond b (x ∷ filter test xs) (filter test xs))
    pick true k = (h.0, k)
    pick false k = k

module _ (c : ClassNames) (n : ℕ) (chart : Chart) (all : Each (GraphNames c n) chart.graphs) where
  abbrev Program : Stmts → Type 0
  Program p = ProgramNames c n p

  abbrev OfTransition : Transition → Type 0
  OfTransition t = TransitionNames c n t

  abbrev OfPlaced : Placed → Type 0
  OfPlaced t = TransitionNames c n t.transition

  abbrev OfArrow : ArrowTree → Type 0
  OfArrow a = ArrowNames c n a

  -- ---- the plan of a chart

  graph_names : (path : Path) (g : Graph) → graph_at chart path ≡ Some g → GraphNames c n g
  graph_names path g e = found_like (GraphNames c n) (λ x. same_path x.owner path) chart.graphs g all e

  state_names : (path : Path) (s : State) → state_at chart path ≡ Some s → StateNames c n s
  state_names [] s e = absurd cc
  state_names (m ∷ owner) s e = by_graph (graph_at chart owner) refl e
    where
      by_graph : (o : Option Graph) → graph_at chart owner ≡ o → option_map_or (λ (g : Graph). first (λ (d : State). same_name d.name m) g.states) o None ≡ Some s → StateNames c n s
      by_graph None at k = absurd cc
      by_graph (Some g) at k = found_like (StateNames c n) (λ (d : State). same_name d.name m) g.states s (graph_names owner g at).0 k

  entry_names : (path : Path) → Program ((plan_of chart).entry path)
  entry_names path = by_state (state_at chart path) refl
    where
      by_state : (o : Option State) → state_at chart path ≡ o → Program (option_map_or (λ (s : State). s.entry) o no_stmt)
      by_state None at = tt
      by_state (Some s) at = (state_names path s at).0

  exit_names : (path : Path) → Program ((plan_of chart).exit path)
  exit_names path = by_state (state_at chart path) refl
    where
      by_state : (o : Option State) → state_at chart path ≡ o → Program (option_map_or (λ (s : State). s.exit) o no_stmt)
      by_state None at = tt
      by_state (Some s) at = (state_names path s at).1

  placed_names : (path : Path) (ts : List Transition) → Each OfTransition ts → Each OfPlaced (map (λ (t : Transition). let p : Placed = record { graph = path; transition = t } in p) ts)
  placed_names path [] h = tt
  placed_names path (t ∷ ts) h = (h.0, placed_names path ts h.1)

  from_names : (test : Source → Bool) (path : Path) → Each OfPlaced (from test chart path)
  from_names test path = by_graph (graph_at chart path) refl
    where
      by_graph : (o : Option Graph) → graph_at chart path ≡ o
          → Each OfPlaced (map (λ (t : Transition). let p : Placed = record { graph = path; transition = t } in p) (filter (λ (t : Transition). test t.source) (option_map_or (λ (g : Graph). g.transitions) o [])))
      by_graph None at = tt
      by_graph (Some g) at = placed_names path (filter (λ (t : Transition). test t.source) g.transitions) (kept_like OfTransition (λ (t : Transition). test t.source) g.transitions (graph_names path g at).1)

  tried_names : (path : Path) → Each OfPlaced (tried chart path)
  tried_names [] = tt
  tried_names (s ∷ owner) = each_both OfPlaced (from (is_from_state s) chart owner) (from is_from_point chart owner) (from_names (is_from_state s) owner) (from_names is_from_point owner)

  first_names : (path : Path) (make : Placed → Kind Path Placed) (ts : List Placed) → ((t : Placed) → OfPlaced t → GoesOn OfPlaced (make t)) → Each OfPlaced ts → GoesOn OfPlaced (by_first path make ts)
  first_names path make [] each h = tt
  first_names path make (t ∷ ts) each h = each t h.0

  node_names : (k : Node) → GoesOn OfPlaced (kind_of chart k)
  node_names (a_state path) = first_names path (λ t. Border path t) (from is_initial chart path) (λ t h. h) (from_names is_initial path)
  node_names (a_choice graph x) =
      let branches = from_names (is_from_choice x) graph in
      first_names graph (λ d. Choice (filter has_condition (from (is_from_choice x) chart graph)) d) (filter has_none (from (is_from_choice x) chart graph))
      (λ t h. (kept_like OfPlaced has_condition (from (is_from_choice x) chart graph) branches, h))
      (kept_like OfPlaced has_none (from (is_from_choice x) chart graph) branches)
  node_names (an_entry owner e) = first_names owner (λ t. Entry owner t) (from (is_from_entry e) chart owner) (λ t h. h) (from_names (is_from_entry e) owner)
  node_names (an_exit [] x) = tt
  node_names (an_exit (s ∷ owner) x) = first_names (s ∷ owner) (λ t. Exit (s ∷ owner) t) (from (is_from_exit x s) chart owner) (λ t h. h) (from_names (is_from_exit x s) owner)

  -- ---- tables that show it

  module _ (v : Tables) (names : Names) (shows : Shows v names chart) where
    arrow_names : (a : ArrowTree) (t : Placed) → IsTransition names a t → OfPlaced t → OfArrow a
    arrow_names a t is h = record {
      triggers_name = subst (Each (TriggerNames c n)) (sym is.triggers) h.triggers_name;
      condition_names = subst (IfAnyNames n) (sym is.condition) h.condition_names;
      action_names = subst Program (sym is.action) h.action_names;
    }

    arrows_name : (arrows : List ArrowTree) (ts : List Placed) → EachSame (IsTransition names) arrows ts → Each OfPlaced ts → Each OfArrow arrows
    arrows_name _ _ none h = tt
    arrows_name _ _ (more {x} {y} {xs} {ys} r rs) h = (arrow_names x y r h.0, arrows_name xs ys rs h.1)

    kind_names : (k : Kind ℕ ArrowTree) (l : Kind Path Placed) → SameKind (IsPath (length v.states.items) names) (IsTransition names) k l → GoesOn OfPlaced l → GoesOn OfArrow k
    kind_names _ _ (simple r) h = tt
    kind_names _ _ (border {s} {s'} {t} {t'} r q) h = arrow_names t t' q h
    kind_names _ _ (choice {ts} {ts'} {t} {t'} rs q) h = (arrows_name ts ts' rs h.0, arrow_names t t' q h.1)
    kind_names _ _ (entry {s} {s'} {t} {t'} r q) h = arrow_names t t' q h
    kind_names _ _ (exit {s} {s'} {t} {t'} r q) h = arrow_names t t' q h

    -- a state that the tables have is one of the chart
    is_path : (s : ℕ) → s < length v.states.items → IsPath (length v.states.items) names s (names.paths s)
    is_path s there = record { known = there; is = refl }

    by_number : (Q : ℕ → Type 0) → ((s : ℕ) → s < length v.states.items → Q s) → ((s : ℕ) → row_at v s ≡ None → Q s) → (s : ℕ) → Q s
    by_number Q inside outside s = elim (slice_get_cases v.states.items s).1 [
      | inl x ↦ inside s x.1
      | inr past ↦ outside s past.1
    ]

    no_row : (o : Option Row) → o ≡ None → Each OfArrow (option_map_or (λ (r : Row). arrow_views r.own.items) o [] ++ option_map_or (λ (r : Row). graph_arrows v r.graph) o [])
    no_row None e = tt
    no_row (Some r) e = absurd cc

    entries_name : (s : ℕ) → Program ((plan v).entry s)
    entries_name = by_number (λ s. Program ((plan v).entry s))
        (λ s there. subst Program (sym (shows.entry s (names.paths s) (is_path s there))) (entry_names (names.paths s)))
        (λ s past. subst (λ (o : Option Row). Program (option_map_or (λ (r : Row). program_view r.entry) o no_stmt)) (sym past) tt)

    exits_name : (s : ℕ) → Program ((plan v).exit s)
    exits_name = by_number (λ s. Program ((plan v).exit s))
        (λ s there. subst Program (sym (shows.exit s (names.paths s) (is_path s there))) (exit_names (names.paths s)))
        (λ s past. subst (λ (o : Option Row). Program (option_map_or (λ (r : Row). program_view r.exit) o no_stmt)) (sym past) tt)

    all_tried_name : (s : ℕ) → Each OfArrow ((plan v).tried s)
    all_tried_name = by_number (λ s. Each OfArrow ((plan v).tried s))
        (λ s there. arrows_name ((plan v).tried s) (tried chart (names.paths s)) (shows.tried s (names.paths s) (is_path s there)) (tried_names (names.paths s)))
        (λ s past. no_row (row_at v s) past)

    nodes_name : (k : ℕ) → GoesOn OfArrow ((plan v).node k)
    nodes_name k = kind_names ((plan v).node k) (kind_of chart (names.nodes k)) (shows.node k (names.nodes k) (record { is = refl })) (node_names (names.nodes k))

-- tables that are compiled from a chart
pub compiled_name : (c : ClassNames) (chart : Chart) → ChartNames c chart → (v : Tables) → Compiles v chart → TablesName c v
compiled_name c chart all v is =
    let many : length chart.values ≡ numbers_of v = subst (λ vs. length vs ≡ length v.values.items) is.values refl in
    let named = subst (λ n. Each (GraphNames c n) chart.graphs) many all in
    let n = numbers_of v in
    let starts = subst (Each (OfPlaced c n chart named)) is.starts.1 (from_names c n chart named is_initial []) in
    record {
      entry = entries_name c n chart named v is.names is.shows;
      exit = exits_name c n chart named v is.names is.shows;
      tried = all_tried_name c n chart named v is.names is.shows;
      nodes = nodes_name c n chart named v is.names is.shows;
      initial = arrow_names c n chart named v is.names is.shows (arrow_view v.initial) is.start is.initial starts.0;
    }
