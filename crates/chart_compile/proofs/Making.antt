-- What a valid chart gives to the making of its tables, and what the making keeps.
use Rattle.std.proofs.Common.{◌≡◌, ℕ, zero, suc, ◌+◌, ◌<◌, ◌≤◌, Bool, true, false, List, [], ◌∷◌, ◌++◌, length, get_or, take, drop, map, refl, sym, ap, ◌∙◌, subst, arith, Option, Some, None}
use Rattle.std.specs.Prelude.{slice_get, ◌&&◌, sum}
use Rattle.std.specs.List.{cons_option, list_all}
use Rattle.std.specs.Option.{option_map_or}
use Rattle.std.proofs.lemmas.Bool.Decides.{nat_tests}
use Rattle.std.proofs.lemmas.List.{append-nil, drop_more, length-map, map-append, take-append-drop}
use Rattle.std.proofs.lemmas.List.Quantifiers.{position-Some}
use Rattle.std.proofs.lemmas.List.Sums.{sum_by_push}
use Rattle.name_tables.specs.name_numbers.Names.{same, AreDistinct}
use Rattle.number_graphs.specs.class_containment.Containment.{NoneContainsItself}
use Rattle.chart_model.specs.chart_plan.Plan.{Kind, Simple}
use Rattle.chart_model.specs.chart_plan.Same.{Each, SameKind, simple, border, choice, entry, exit}
use Rattle.chart_model.specs.Chart.{Path, Chart}
use Rattle.chart_model.specs.Named.{is_initial, nodes_in}
use Rattle.chart_model.specs.Valid.{IsValid}
use Rattle.chart_run.specs.chart_tables.Tables.{ArrowTree, arrow_view, kind}
use Rattle.chart_run.specs.declared.chart_tables.tables.Arrow.{Arrow}
use Rattle.chart_run.specs.declared.chart_tables.tables.Node.{Node as CodeNode}
use Rattle.chart_run.specs.declared.chart_tables.tables.Node.TheVariants as nodes
use Rattle.chart_run.specs.declared.chart_tables.tables.Tables.{Tables}
use Rattle.chart_trees.specs.chart_graphs.Views.{graph_view}
use Rattle.chart_trees.specs.declared.chart_graphs.Graph.{Graph as CodeGraph}
use Rattle.chart_reader.specs.chart_nodes.Keys.{codes}
use Rattle.chart_reader.specs.chart_nodes.Steps.{StepTree, steps_of}
use Rattle.chart_reader.specs.chart_nodes.Circles.{parts_of}
use Rattle.chart_reader.proofs.chart_nodes.CircleLaws.{circle_is, keyed, target_is}
use Rattle.chart_reader.proofs.chart_nodes.Onward.{from_is, initial_key}
use Rattle.chart_compile.specs.chart_places.Groups.{picked}
use Rattle.chart_compile.specs.chart_places.Places.{PlaceTree, keys_of, places_of, state_key}
use Rattle.chart_compile.specs.chart_parts.Parts.{IsArrow, IsRow, IsShared, IsState, from_key, key_of, target_of}
use Rattle.chart_compile.specs.chart_parts.Nodes.{IsFirst, IsNode, is_lower, kind_by, leads_lower, node_after}
use Rattle.chart_compile.specs.chart_parts.Compiled.{Compiles, IsAssembled, node_kind}
use Rattle.chart_compile.proofs.chart_compiled.Compiling.{compiled_from}
use Rattle.chart_compile.proofs.chart_compiled.Naming.{each_at, each_length}
use Rattle.chart_compile.specs.chart_numbers.Order.{AreNumbered}
use Rattle.chart_compile.proofs.chart_kinds.Lines.{first_passed}
use Rattle.chart_compile.proofs.chart_rows.Listing.{each_more_plain, failed_more, made_more, taken_all}
use Rattle.chart_compile.specs.Joined.{AddsNode, AreKeyed, AreMade, AreOf, SameNodes}
use Rattle.chart_compile.proofs.chart_numbers.Counting.{few_nodes}
use Rattle.chart_compile.proofs.Lowering.{lead_lower}
use Rattle.chart_compile.proofs.chart_numbers.Members.{In-slice_get}

-- ---- what a valid chart gives

pub are_keyed : (chart : Chart) (steps : List StepTree) → steps ≡ steps_of chart → AreKeyed steps
are_keyed chart steps e = subst AreKeyed (sym e) (λ i s at. keyed chart s (In-slice_get (steps_of chart) i s at) ∙ sym (target_is s.placed.graph s.placed.transition.target))

pub no_circle : (chart : Chart) (steps : List StepTree) → IsValid chart → steps ≡ steps_of chart → NoneContainsItself (parts_of steps)
no_circle chart steps valid e = subst (λ (l : List StepTree). NoneContainsItself (parts_of l)) (sym e) (λ i c. let found = circle_is chart (steps_of chart) None true refl (i, c) refl in valid.no_circle found.0 found.1)

pub starts : (chart : Chart) (steps : List StepTree) → IsValid chart → steps ≡ steps_of chart → 0 < length (from_key (0 ∷ codes []) steps)
starts chart steps valid e =
    let found = from_key (0 ∷ codes []) (steps_of chart) in
    let many : length (map (λ (s : StepTree). s.placed) found) ≡ 1 = ap length (sym (from_is is_initial [] (0 ∷ codes []) (initial_key []) chart)) ∙ valid.top_initial in
    subst (λ (l : List StepTree). 0 < length (from_key (0 ∷ codes []) l)) (sym e) (omega (arith, many, length-map found (λ (s : StepTree). s.placed)))

pub enough : (chart : Chart) (steps : List StepTree) (count : ℕ) → IsValid chart → steps ≡ steps_of chart → count ≡ sum (map nodes_in chart.graphs) → (keys : List (List ℕ)) (targets : List ℕ) → AreNumbered steps keys targets → length keys ≤ count
enough chart steps count valid e c keys targets numbers = let bound = few_nodes chart valid keys targets (subst (λ (l : List StepTree). AreNumbered l keys targets) e numbers) in omega (arith, bound, c)

-- ---- nodes

filled : (made : List CodeNode) (n : ℕ) → node_kind (made ++ nodes.Simple 0 ∷ []) n ≡ node_kind made n
filled [] zero = refl
filled [] (suc n) = refl
filled (x ∷ made) zero = refl
filled (x ∷ made) (suc n) = filled made n

-- one more node to which nothing leads
pub fill_more : (old now new : List CodeNode) → SameNodes old now → new ≡ now ++ nodes.Simple 0 ∷ [] → SameNodes old new
fill_more old now new same e = λ n. ap (λ l. node_kind l n) e ∙ filled now n ∙ same n

-- as many nodes are made as there are keys
pub made_size : (states keys : List (List ℕ)) (steps : List StepTree) (targets : List ℕ) (made : List CodeNode) → AreNumbered steps keys targets → Each (IsNode states keys steps) made (picked steps targets) → length made ≡ length keys
made_size states keys steps targets made numbers e = each_length e ∙ sym (length-map (picked steps targets) (λ (s : StepTree). s.target)) ∙ sym (ap length numbers.named)

pub are_made : (states keys : List (List ℕ)) (steps : List StepTree) (targets : List ℕ) (count : ℕ) (made whole : List CodeNode) → AreNumbered steps keys targets → AreKeyed steps → Each (IsNode states keys steps) made (picked steps targets) → SameNodes made whole → length whole ≡ count
    → AreMade states keys steps targets count whole
are_made states keys steps targets count made whole numbers keyed_ e same_ size_ = record {
  made = made;
  nodes_are = e;
  same = same_;
  lower = λ n. subst (λ k. leads_lower n k ≡ true) (sym (same_ n)) (lead_lower states keys steps targets made numbers keyed_ e n);
  size = size_;
}

-- the nodes of one more graph
pub nodes_more : (gs : List CodeGraph) (i : ℕ) (g : CodeGraph) → i < length gs → g ≡ get_or gs i g → sum (map nodes_in (map graph_view (take (i + 1) gs))) ≡ sum (map nodes_in (map graph_view (take i gs))) + nodes_in (graph_view g)
nodes_more gs i g h is =
    ap (λ l. sum (map nodes_in l)) (made_more graph_view gs i g h is) ∙ ap sum (map-append nodes_in (map graph_view (take i gs)) (graph_view g ∷ [])) ∙ sum_by_push (λ (k : ℕ). k) (map nodes_in (map graph_view (take i gs))) (nodes_in (graph_view g))

-- ---- tables

named_split : (steps : List StepTree) (i : ℕ) (rest : List StepTree) (o : Option StepTree) → slice_get steps i ≡ o → AreKeyed steps → map (λ (s : StepTree). s.target) rest ≡ map target_of rest → map (λ (s : StepTree). s.target) (cons_option o rest) ≡ map target_of (cons_option o rest)
named_split steps i rest (Some s) at keyed_ again = ap (λ k. k ∷ map (λ (s : StepTree). s.target) rest) (keyed_ i s at) ∙ ap (λ l. target_of s ∷ l) again
named_split steps i rest None at keyed_ again = again

pub named_by : (steps : List StepTree) (targets : List ℕ) → AreKeyed steps → map (λ (s : StepTree). s.target) (picked steps targets) ≡ map target_of (picked steps targets)
named_by steps [] keyed_ = refl
named_by steps (i ∷ targets) keyed_ = named_split steps i (picked steps targets) (slice_get steps i) refl keyed_ (named_by steps targets keyed_)

lower_zero : (a : ArrowTree) → is_lower 0 a ≡ true → ⊥
lower_zero a e = let below : a.target < 0 = grind (arith, nat_tests) in omega arith

and_second : (a b : Bool) → (a && b) ≡ true → b ≡ true
and_second true b e = e
and_second false b e = absurd cc

-- the lowest node is a state
lowest : (states keys : List (List ℕ)) (k : Kind ℕ ArrowTree) (named : Kind Path StepTree) → SameKind (IsState states) (IsArrow keys) k named → leads_lower 0 k ≡ true → 0 < length states
lowest states keys _ _ (simple {s} {s' = path} r) e = omega (arith, (position-Some (same (state_key path)) states s [] r).0)
lowest states keys _ _ (border {t = a} r h) e = absurd (lower_zero a e)
lowest states keys _ _ (choice {ts} {t = a} h r) e = absurd (lower_zero a (and_second (list_all (is_lower 0) ts) (is_lower 0 a) e))
lowest states keys _ _ (entry {t = a} r h) e = absurd (lower_zero a e)
lowest states keys _ _ (exit {t = a} r h) e = absurd (lower_zero a e)

first_number : (keys : List (List ℕ)) (a : Arrow) (ss : List StepTree) → IsFirst keys (Some a) ss → 0 < length keys
first_number keys a [] h = absurd h
first_number keys a (s ∷ ss) h = omega (arith, (position-Some (same (target_of s)) keys (arrow_view a).target [] h.target).0)

-- a chart whose tables are put together has a state
some_state : (states graphs : List (List ℕ)) (steps : List StepTree) (places : List PlaceTree) (targets : List StepTree) (count : ℕ) (v : Tables) → IsAssembled states graphs (map target_of targets) steps places targets count v → 0 < length states
some_state states graphs steps places targets count v built =
    let keys = map target_of targets in
    let some = first_number keys v.initial (from_key (0 ∷ codes []) steps) built.first in
    let at = each_at 0 (let l : 0 < length targets = omega (arith, some, length-map targets target_of) in l) built.nodes_are in
    let s = at.1 in
    let here : node_kind v.nodes.items 0 ≡ kind at.0 = built.padded 0 ∙ ap (λ o. option_map_or kind o (Simple 0)) at.2 in
    lowest states keys (kind at.0) (kind_by (node_after s) (from_key (target_of s) steps)) at.4 (subst (λ k. leads_lower 0 k ≡ true) here (built.lower 0))

pub tables_of : (chart : Chart) (v : Tables) (steps : List StepTree) (places : List PlaceTree) (states graphs : List (List ℕ)) (count : ℕ) → IsValid chart
    → steps ≡ steps_of chart → places ≡ places_of chart → states ≡ map key_of places → graphs ≡ keys_of chart.graphs → count ≡ sum (map nodes_in chart.graphs)
    → AreOf states graphs steps places count v → AreDistinct states → length places ≤ 65535 → v.values.items ≡ chart.values → Compiles v chart
tables_of chart v steps places states graphs count valid es ep ek eg ec (targets, built) distinct few values =
    let some = some_state states graphs steps places targets count v built in
    let there : 0 < length places = omega (arith, some, ap length ek, length-map places key_of) in
    compiled_from chart v targets steps places states graphs (map target_of targets) count valid es ep ek eg refl ec built distinct there few values

pub assembled : (states graphs keys : List (List ℕ)) (steps : List StepTree) (places : List PlaceTree) (numbers : List ℕ) (count : ℕ) (v : Tables) → AreNumbered steps keys numbers → AreKeyed steps → Each (IsRow states graphs keys steps) v.states.items places → Each (IsShared keys steps) v.graphs.items graphs
    → AreMade states keys steps numbers count v.nodes.items → IsFirst keys (Some v.initial) (from_key (0 ∷ codes []) steps) → AreOf states graphs steps places count v
assembled states graphs keys steps places numbers count v numbered keyed_ rows_ shared_ nodes_ first_ =
    let targets = picked steps numbers in
    let named : keys ≡ map target_of targets = numbered.named ∙ named_by steps numbers keyed_ in (
      targets,
      subst (λ (k : List (List ℕ)). IsAssembled states graphs k steps places targets count v) named
          (record {
            rows = rows_;
            shared = shared_;
            made = nodes_.made;
            nodes_are = nodes_.nodes_are;
            padded = nodes_.same;
            lower = nodes_.lower;
            size = nodes_.size;
            first = first_;
          }),
    )

-- ---- loops

pub node_none : (states keys : List (List ℕ)) (steps : List StepTree) (number : ℕ) (old : List CodeNode) → slice_get steps number ≡ None → AddsNode states keys steps number old old
node_none states keys steps number old e = λ ss h. subst (λ (l : List StepTree). Each (IsNode states keys steps) old l) (sym (ap (λ o. ss ++ cons_option o []) e ∙ append-nil ss)) h

pub node_some : (states keys : List (List ℕ)) (steps : List StepTree) (number : ℕ) (old new : List CodeNode) (n : CodeNode) (s : StepTree) → slice_get steps number ≡ Some s → new ≡ old ++ n ∷ [] → IsNode states keys steps n s → AddsNode states keys steps number old new
node_some states keys steps number old new n s e made is = λ ss h. each_more_plain (IsNode states keys steps) old new n ss (ss ++ cons_option (slice_get steps number) []) s made (ap (λ o. ss ++ cons_option o []) e) is h

made_around : {A : Type 0} (v : A → StepTree) (steps : List A) (i : ℕ) (s : A) → i < length steps → s ≡ get_or steps i s → map v steps ≡ map v (take i steps) ++ v s ∷ map v (drop (i + 1) steps)
made_around v steps i s h is =
    ap (map v) (sym (take-append-drop i steps) ∙ ap (λ l. take i steps ++ l) (drop_more steps i s h ∙ ap (λ x. x ∷ drop (i + 1) steps) (sym is))) ∙ map-append v (take i steps) (s ∷ drop (i + 1) steps)

-- the first step at a place
pub first_there : {A : Type 0} (v : A → StepTree) (keys : List (List ℕ)) (key : List ℕ) (steps : List A) (i : ℕ) (s : A) (a : Arrow) → i < length steps → s ≡ get_or steps i s → from_key key (map v (take i steps)) ≡ [] → same (v s).origin key ≡ true → IsArrow keys (arrow_view a) (v s)
    → IsFirst keys (Some a) (from_key key (map v steps))
first_there v keys key steps i s a h is none_ t arrow =
    subst (λ (l : List StepTree). IsFirst keys (Some a) (from_key key l)) (sym (made_around v steps i s h is)) (first_passed keys (λ (s : StepTree). same s.origin key) (map v (take i steps)) (map v (drop (i + 1) steps)) (v s) a none_ t arrow)

pub still_none : {A : Type 0} (v : A → StepTree) (key : List ℕ) (steps : List A) (i : ℕ) (s : A) → i < length steps → s ≡ get_or steps i s → from_key key (map v (take i steps)) ≡ [] → same (v s).origin key ≡ false → from_key key (map v (take (i + 1) steps)) ≡ []
still_none v key steps i s h is none_ t = failed_more (λ (s : StepTree). same s.origin key) (map v (take i steps)) (map v (take (i + 1) steps)) (v s) (made_more v steps i s h is) t ∙ none_

pub none_left : {A : Type 0} (v : A → StepTree) (key : List ℕ) (steps : List A) (i : ℕ) → length steps ≤ i → from_key key (map v (take i steps)) ≡ [] → 0 < length (from_key key (map v steps)) → ⊥
none_left v key steps i h none_ some =
    let all : from_key key (map v steps) ≡ [] = ap (λ l. from_key key (map v l)) (sym (taken_all steps i h)) ∙ none_ in
    omega (arith, ap length all, some)
