-- Reading, step by step.
use Rattle.std.proofs.Common.{◌≡◌, ℕ, suc, zero, ◌+◌, ◌<◌, ◌≤◌, List, [], ◌∷◌, length, drop, get_or, map, Option, Some, refl, sym, ap, ◌∙◌, subst, arith}
use Rattle.std.proofs.Common.{add-one}
use Rattle.room_ast.specs.declared.chart.Code.{Code}
use Rattle.room_ast.specs.declared.chart.GraphItem.{GraphItem}
use Rattle.room_ast.specs.declared.chart.Trigger.{Trigger}
use Rattle.room_ast.specs.declared.scope.Scope.{Scope}
use Rattle.room_ast.specs.ChartTree.{GraphItemTree, GraphItems, items_of, item_view, graph_view}
use Rattle.std.specs.Prelude.{ℤ}
use Rattle.room_ast.specs.declared.scope.ScopeAttribute.{ScopeAttribute}
use Rattle.chart_model.specs.Chart.{Path, Graph, Chart}
use Rattle.chart_trees.specs.declared.chart_codes.marks.Marks.{Marks}
use Rattle.chart_trees.specs.chart_codes.Progress.{Progress, progress, after_guard, after_triggers, marks_after_guard}
use Rattle.chart_trees.specs.chart_codes.Events.{events_fit, guards_fit}
use Rattle.std.specs.Prelude.{◌&&◌}
use Rattle.chart_trees.proofs.chart_codes.MarkLaws.{guard_met, triggers_met}
use Rattle.chart_trees.specs.Around.{Around, around, list_of}
use Rattle.chart_trees.specs.Reading.{Piece, with_item, with_items, begun, piece_of, graphs_of, at_first, chart_of}
use Rattle.chart_trees.proofs.Lists.{list_of_items}
use Rattle.action_lang.proofs.action_check.Built.{drop_all, drop_at}

abbrev pub made : List Graph → List ℤ → Chart
made gs vs = record { graphs = gs; values = vs }

-- triggers, and then a condition
pub before_met : (scope : Scope) (m0 m1 m2 : Marks) (ts : List Trigger) (code : Option Code) (names : List (List ℕ)) → m1.events_fit ≡ (m0.events_fit && events_fit scope ts) → m1.codes_fit ≡ (m0.codes_fit && guards_fit scope ts) → m2 ≡ marks_after_guard scope m1 code
    → progress m2 names ≡ after_guard scope (after_triggers scope (progress m0 names) ts) code
before_met scope m0 m1 m2 ts code names e f g = ap (λ (m : Marks). progress m names) g ∙ guard_met scope m1 code names ∙ ap (λ (p : Progress). after_guard scope p code) (triggers_met scope m0 m1 ts names e f)

-- before the first item
pub items_begin : (scope : Scope) (items : List GraphItem) (a : Around) (owner : Path) (p : Piece) (come : Progress) → a ≡ around (map item_view items) → p ≡ begun come → with_items scope (graph_view (drop 0 items)) a owner p ≡ piece_of scope (graph_view items) owner come
items_begin scope items a owner p come e f =
    ap (λ (b : Around). with_items scope (graph_view items) b owner p) (e ∙ ap around (sym (list_of_items (map item_view items)))) ∙ ap (λ (q : Piece). with_items scope (graph_view items) (around (list_of (graph_view items))) owner q) f

-- one item more
pub items_next : (scope : Scope) (items : List GraphItem) (i : ℕ) (x : GraphItem) (a : Around) (owner : Path) (p q whole : Piece) → i < length items → x ≡ get_or items i x → with_items scope (graph_view (drop i items)) a owner p ≡ whole → q ≡ with_item scope (item_view x) a owner p
    → with_items scope (graph_view (drop (i + 1) items)) a owner q ≡ whole
items_next scope items i x a owner p q whole lt is so_far more =
    ap (λ (r : Piece). with_items scope (graph_view (drop (i + 1) items)) a owner r) more
    ∙ sym (ap (λ (xs : List GraphItem). with_items scope (graph_view xs) a owner p) (drop_at items i x lt is)) ∙ so_far

-- no item is left
pub items_end : (scope : Scope) (items : List GraphItem) (i : ℕ) (a : Around) (owner : Path) (p whole : Piece) → length items ≤ i → with_items scope (graph_view (drop i items)) a owner p ≡ whole → p ≡ whole
items_end scope items i a owner p whole le so_far = sym (ap (λ (xs : List GraphItem). with_items scope (graph_view xs) a owner p) (drop_all items i le)) ∙ so_far

-- a chart, written
pub chart_written : (scope : Scope) (names : List (List ℕ)) (is : GraphItems) (gs : List Graph) (vs : List ℤ) (p : Piece) → p ≡ piece_of scope is [] (at_first names) → gs ≡ graphs_of [] p → vs ≡ map (λ (a : ScopeAttribute). a.initial) scope.attributes.items → made gs vs ≡ chart_of scope names is
unfolding chart_of
chart_written scope names is gs vs p e f g = ap (λ hs. made hs vs) (f ∙ ap (graphs_of []) e) ∙ ap (λ ws. made (graphs_of [] (piece_of scope is [] (at_first names))) ws) g
