-- In a valid chart a chain goes on from the nodes that transitions lead to.
use Rattle.std.proofs.Common.{◌≡◌, ◌<◌, ℕ, true, false, List, [], ◌∷◌, Some, length, map, sym, ap, ◌∙◌, subst, arith, eqb-true}
use Rattle.std.specs.Prelude.{◌&&◌}
use Rattle.std.specs.List.{filter, list_all}
use Rattle.std.specs.Option.{option_map_or}
use Rattle.std.proofs.lemmas.List.{length-map}
use Rattle.std.proofs.lemmas.List.Elements.{All-contains}
use lib.Pointwise.{bytes_decides}
use Rattle.chart_model.specs.Chart.{Name, Path, Target, to_state, to_choice, to_point, to_entry, to_exit, PointKind, a_transition_point, an_entry_point, an_exit_point, Point, Graph, Chart}
use Rattle.chart_model.specs.Named as named
use Rattle.chart_model.specs.Named.{Placed, a_choice, from, graph_at, is_from_choice, node_of, same_name, same_path}
use Rattle.chart_model.specs.States.{states_of}
use Rattle.chart_model.specs.Valid.{HasRightNames, IsValid, goes_on_once, has_default, has_point, has_right_parts, has_state, is_kind, is_right_transition, source_is_there, target_is_there}
use Rattle.chart_reader.specs.Whole.{IsWhole}
use Rattle.chart_reader.specs.chart_nodes.Keys.{target_key}
use Rattle.chart_reader.specs.chart_nodes.Steps.{StepTree, steps_of}
use Rattle.chart_reader.proofs.chart_nodes.Members.{In, Contains-from_In, any_In}
use Rattle.chart_reader.proofs.chart_nodes.Onward.{onward_is}
use Rattle.chart_compile.specs.chart_places.Places.{state_key}
use Rattle.chart_compile.specs.chart_parts.Parts.{HasShortNumber, from_key, target_of}
use Rattle.chart_compile.specs.chart_parts.Nodes.{GoesOn, has_none, node_after}
use Rattle.chart_compile.specs.Joined.{AllGoOn}
use Rattle.chart_compile.proofs.chart_compiled.NodeKinds.{filter_made}
use Rattle.chart_compile.proofs.chart_numbers.Counting.{all_passed, and_both}
use Rattle.chart_reader.proofs.NestedGraphs.{In-first}
use Rattle.chart_compile.proofs.chart_numbers.Members.{In-slice_get}
use Rattle.chart_compile.proofs.chart_numbers.Reaching.{reached, reached_owner, step_first}

-- a choice point has a branch without a condition
choice_goes : (chart : Chart) (g : Graph) (c : Name) → IsValid chart → In chart.graphs g → In g.choices c → 0 < length (filter has_none (from_key (target_key g.owner (to_choice c)) (steps_of chart)))
choice_goes chart g c valid h there =
    let ss = from_key (target_key g.owner (to_choice c)) (steps_of chart) in
    let branches = from (is_from_choice c) chart g.owner in
    let are : branches ≡ map (λ (s : StepTree). s.placed) ss = onward_is chart (a_choice g.owner c) in
    let one : has_default chart g c ≡ true =
    all_passed (has_default chart g) g.choices c (all_passed (λ (g : Graph). list_all (has_default chart g) g.choices) chart.graphs g valid.defaults h) there in
    let many : length (filter named.has_none branches) ≡ 1 = eqb-true (length (filter named.has_none branches)) 1 one in
    let same : filter named.has_none branches ≡ map (λ (s : StepTree). s.placed) (filter has_none ss) =
    ap (filter named.has_none) are ∙ filter_made named.has_none (λ (s : StepTree). s.placed) ss in
    omega (arith, many, ap length same, length-map (filter has_none ss) (λ (s : StepTree). s.placed))

kinds_apart : (k : PointKind) → is_kind a_transition_point k ≡ true → is_kind an_exit_point k ≡ true → ⊥
kinds_apart a_transition_point e f = absurd cc
kinds_apart an_entry_point e f = absurd cc
kinds_apart an_exit_point e f = absurd cc

-- the top graph has no exit point
exit_goes : (chart : Chart) (owner : Path) (points : List Point) (x : Name) → list_all (goes_on_once chart owner) points ≡ true → (p : Point) → In points p → (is_kind an_exit_point p.kind && same_name p.name x) ≡ true → 0 < length owner
exit_goes chart [] points x e p there is = absurd (kinds_apart p.kind (all_passed (goes_on_once chart []) points p e there) (and_both (is_kind an_exit_point p.kind) (same_name p.name x) is).0)
exit_goes chart (n ∷ owner) points x e p there is = omega arith

target_goes : (chart : Chart) (states : List (List ℕ)) (g : Graph) (t : Target) → IsValid chart → In chart.graphs g → ((n : Name) → has_state g n ≡ true → HasShortNumber states (state_key (n ∷ g.owner))) → (0 < length g.owner → HasShortNumber states (state_key g.owner)) → target_is_there chart g t ≡ true
    → GoesOn states (node_of g.owner t) (from_key (target_key g.owner t) (steps_of chart))
target_goes chart states g (to_state s) valid h inside own e = inside s e
target_goes chart states g (to_point p s) valid h inside own e = inside s (and_both (has_state g s) (option_map_or (λ (x : Graph). has_point a_transition_point x p) (graph_at chart (s ∷ g.owner)) false) e).0
target_goes chart states g (to_entry n s) valid h inside own e = inside s (and_both (has_state g s) (option_map_or (λ (x : Graph). has_point an_entry_point x n) (graph_at chart (s ∷ g.owner)) false) e).0
target_goes chart states g (to_choice c) valid h inside own e =
    let r = any_In (same_name c) g.choices e in
    let same : r.0 ≡ c = sym ((bytes_decides c r.0).0 r.2) in
    subst (λ (d : Name). 0 < length (filter has_none (from_key (target_key g.owner (to_choice d)) (steps_of chart)))) same (choice_goes chart g r.0 valid h r.1)
target_goes chart states g (to_exit x) valid h inside own e =
    let right = All-contains (HasRightNames chart) chart.graphs g valid.names (Contains-from_In chart.graphs g h) in
    let r = any_In (λ (q : Point). is_kind an_exit_point q.kind && same_name q.name x) g.points e in
    let outside = exit_goes chart g.owner g.points x right.points r.0 r.1 r.2 in
    (outside, own outside)

step_goes : (chart : Chart) (states : List (List ℕ)) (s : StepTree) → IsWhole chart → ((path : Path) → In (states_of chart) path → HasShortNumber states (state_key path)) → In (steps_of chart) s → GoesOn states (node_after s) (from_key (target_of s) (steps_of chart))
step_goes chart states s whole numbered h =
    let valid = whole.valid in
    let r = step_first [] chart.graphs s h in
    let g = r.0 in
    let t = r.1 in
    let inside = In-first (λ (x : Graph). same_path x.owner s.placed.graph) chart.graphs g r.2 in
    let own : s.placed.graph ≡ g.owner = ap (λ (x : StepTree). x.placed.graph) (sym r.4) in
    let found : graph_at chart g.owner ≡ Some g = subst (λ q. graph_at chart q ≡ Some g) own r.2 in
    let right = (All-contains (HasRightNames chart) chart.graphs g valid.names (Contains-from_In chart.graphs g inside)).transitions in
    let one = all_passed (is_right_transition chart g) g.transitions t right r.3 in
    let both = and_both (source_is_there chart g t.source && target_is_there chart g t.target) (has_right_parts t) one in
    let there = (and_both (source_is_there chart g t.source) (target_is_there chart g t.target) both.0).1 in
    subst (λ (x : StepTree). GoesOn states (node_after x) (from_key (target_of x) (steps_of chart))) r.4
    (target_goes chart states g t.target valid inside (λ n e. numbered (n ∷ g.owner) (reached chart whole.graphs g.owner g n found e)) (λ l. numbered g.owner (reached_owner chart whole.graphs g.owner g found l)) there)

pub go_on : (chart : Chart) (steps : List StepTree) (states : List (List ℕ)) → IsWhole chart → steps ≡ steps_of chart → ((path : Path) → In (states_of chart) path → HasShortNumber states (state_key path)) → AllGoOn states steps
go_on chart steps states whole e numbered = subst (AllGoOn states) (sym e) (λ i s here. step_goes chart states s whole numbered (In-slice_get (steps_of chart) i s here))
