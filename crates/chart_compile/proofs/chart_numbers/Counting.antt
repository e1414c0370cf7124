-- A valid chart has no more nodes to which steps lead than states, points and choice points.
use Rattle.std.proofs.Common.{◌≡◌, inl, inr, ℕ, ◌+◌, ◌≤◌, Bool, true, false, cond, List, [], ◌∷◌, ◌++◌, length, map, refl, sym, ap, ◌∙◌, subst, arith, Option, Some, None}
use Rattle.std.specs.Prelude.{◌&&◌, slice_get, sum}
use Rattle.std.specs.List.{cons_option, flat_map, list_all, list_any}
use Rattle.std.specs.Option.{option_map_or}
use Rattle.std.proofs.lemmas.List.{length-append, length-map}
use Rattle.std.proofs.lemmas.List.Elements.{All-contains}
use Rattle.std.proofs.lemmas.List.Sums.{sum_by-cons}
use Rattle.std.proofs.lemmas.Map.Made.{length-le_from_is_member}
use lib.Pointwise.{bytes_decides}
use Rattle.name_tables.specs.name_numbers.Names.{same, is_among}
use Rattle.chart_model.specs.Chart.{Name, Path, Target, to_state, to_choice, to_point, to_entry, to_exit, Transition, State, PointKind, a_transition_point, an_entry_point, an_exit_point, Point, Graph, Chart}
use Rattle.chart_model.specs.Named.{Node, a_state, a_choice, an_entry, an_exit, graph_at, node_of, nodes_in, same_name, same_path}
use Rattle.chart_model.specs.Valid.{HasRightNames, IsValid, has_choice, has_point, has_right_parts, has_state, is_kind, is_right_transition, source_is_there, target_is_there}
use Rattle.chart_reader.specs.chart_nodes.Keys.{codes, node_key}
use Rattle.chart_reader.specs.chart_nodes.Steps.{StepTree, step_of, steps_behind, steps_in, steps_of}
use Rattle.chart_reader.proofs.chart_nodes.CircleLaws.{target_is}
use Rattle.chart_reader.proofs.chart_nodes.Members.{In, Contains-from_In, In_any, any_In}
use Rattle.chart_compile.specs.chart_places.Groups.{picked}
use Rattle.chart_compile.proofs.chart_places.PlaceLaws.{owner_is}
use Rattle.chart_compile.specs.chart_numbers.Order.{AreNumbered}
use Rattle.chart_compile.proofs.chart_numbers.Members.{In-slice_get}
use Rattle.chart_compile.proofs.chart_numbers.Ordering.{same_laws}
use Rattle.chart_reader.proofs.NestedGraphs.{In_left, In_right, In-first, In_append}

-- ---- the nodes of graphs

-- a point as the node that it may be: an exit point, or an entry point
kind_node : Path → PointKind → Name → Node
kind_node owner a_transition_point n = an_entry owner n
kind_node owner an_entry_point n = an_entry owner n
kind_node owner an_exit_point n = an_exit owner n

abbrev state_nodes : Graph → List Node
state_nodes g = map (λ (s : State). a_state (s.name ∷ g.owner)) g.states

abbrev point_nodes : Graph → List Node
point_nodes g = map (λ (p : Point). kind_node g.owner p.kind p.name) g.points

abbrev choice_nodes : Graph → List Node
choice_nodes g = map (λ (c : Name). a_choice g.owner c) g.choices

abbrev graph_nodes : Graph → List Node
graph_nodes g = (state_nodes g ++ point_nodes g) ++ choice_nodes g

abbrev all_nodes : List Graph → List Node
all_nodes graphs = flat_map graph_nodes graphs

graph_size : (g : Graph) → length (graph_nodes g) ≡ nodes_in g
graph_size g =
    length-append (state_nodes g ++ point_nodes g) (choice_nodes g)
    ∙ ap (λ n. n + length (choice_nodes g)) (length-append (state_nodes g) (point_nodes g))
    ∙ ap (λ n. n + length (point_nodes g) + length (choice_nodes g)) (length-map g.states (λ (s : State). a_state (s.name ∷ g.owner)))
    ∙ ap (λ n. length g.states + n + length (choice_nodes g)) (length-map g.points (λ (p : Point). kind_node g.owner p.kind p.name))
    ∙ ap (λ n. length g.states + length g.points + n) (length-map g.choices (λ (c : Name). a_choice g.owner c))

all_size : (graphs : List Graph) → length (all_nodes graphs) ≡ sum (map nodes_in graphs)
all_size [] = refl
all_size (g ∷ graphs) = length-append (graph_nodes g) (all_nodes graphs) ∙ ap (λ n. n + length (all_nodes graphs)) (graph_size g) ∙ ap (λ n. nodes_in g + n) (all_size graphs) ∙ sym (sum_by-cons (λ n. n) (nodes_in g) (map nodes_in graphs))

-- ---- what a step leads to is one of them

pub In-map : {A B : Type 0} (f : A → B) (xs : List A) (x : A) → In xs x → In (map f xs) (f x)
In-map f [] x h = absurd h
In-map f (y ∷ xs) x (inl e) = inl (ap f e)
In-map f (y ∷ xs) x (inr i) = inr (In-map f xs x i)

pub In_whole : {A B : Type 0} (f : A → List B) (xs : List A) (x : A) (y : B) → In xs x → In (f x) y → In (flat_map f xs) y
In_whole f [] x y h i = absurd h
In_whole f (z ∷ xs) x y (inl e) i = In_left (f z) (flat_map f xs) y (subst (λ w. In (f w) y) (sym e) i)
In_whole f (z ∷ xs) x y (inr h) i = In_right (f z) (flat_map f xs) y (In_whole f xs x y h i)

pub and_both : (a b : Bool) → (a && b) ≡ true → (a ≡ true) × (b ≡ true)
and_both true b e = (refl, e)
and_both false b e = absurd cc

name_is : (m n : Name) → same_name m n ≡ true → m ≡ n
name_is m n = (bytes_decides m n).0

state_there : (g : Graph) (s : Name) → has_state g s ≡ true → In (graph_nodes g) (a_state (s ∷ g.owner))
state_there g s e =
    let r = any_In (λ (d : State). same_name d.name s) g.states e in
    In_left (state_nodes g ++ point_nodes g) (choice_nodes g) (a_state (s ∷ g.owner))
    (In_left (state_nodes g) (point_nodes g) (a_state (s ∷ g.owner))
    (subst (λ n. In (state_nodes g) (a_state (n ∷ g.owner))) (name_is r.0.name s r.2) (In-map (λ (s : State). a_state (s.name ∷ g.owner)) g.states r.0 r.1)))

choice_there : (g : Graph) (c : Name) → has_choice g c ≡ true → In (graph_nodes g) (a_choice g.owner c)
choice_there g c e =
    let r = any_In (same_name c) g.choices e in
    In_right (state_nodes g ++ point_nodes g) (choice_nodes g) (a_choice g.owner c)
    (subst (λ n. In (choice_nodes g) (a_choice g.owner n)) (sym (name_is c r.0 r.2)) (In-map (λ (c : Name). a_choice g.owner c) g.choices r.0 r.1))

kind_is : (kind k : PointKind) (owner : Path) (n : Name) → is_kind kind k ≡ true → kind_node owner k n ≡ kind_node owner kind n
kind_is a_transition_point a_transition_point owner n e = refl
kind_is a_transition_point an_entry_point owner n e = absurd cc
kind_is a_transition_point an_exit_point owner n e = absurd cc
kind_is an_entry_point a_transition_point owner n e = absurd cc
kind_is an_entry_point an_entry_point owner n e = refl
kind_is an_entry_point an_exit_point owner n e = absurd cc
kind_is an_exit_point a_transition_point owner n e = absurd cc
kind_is an_exit_point an_entry_point owner n e = absurd cc
kind_is an_exit_point an_exit_point owner n e = refl

point_there : (kind : PointKind) (g : Graph) (p : Name) → has_point kind g p ≡ true → In (graph_nodes g) (kind_node g.owner kind p)
point_there kind g p e =
    let r = any_In (λ (q : Point). is_kind kind q.kind && same_name q.name p) g.points e in
    let both = and_both (is_kind kind r.0.kind) (same_name r.0.name p) r.2 in
    In_left (state_nodes g ++ point_nodes g) (choice_nodes g) (kind_node g.owner kind p)
    (In_right (state_nodes g) (point_nodes g) (kind_node g.owner kind p)
    (subst (λ n. In (point_nodes g) n) (kind_is kind r.0.kind g.owner r.0.name both.0 ∙ ap (kind_node g.owner kind) (name_is r.0.name p both.1)) (In-map (λ (p : Point). kind_node g.owner p.kind p.name) g.points r.0 r.1)))

-- the graph of a state has an entry point
entry_there : (chart : Chart) (path : Path) (p : Name) (o : Option Graph) → graph_at chart path ≡ o → option_map_or (λ inner. has_point an_entry_point inner p) o false ≡ true → In (all_nodes chart.graphs) (an_entry path p)
unfolding kind_node
entry_there chart path p None at e = absurd cc
entry_there chart path p (Some g) at e =
    let inside : In chart.graphs g = In-first (λ (g : Graph). same_path g.owner path) chart.graphs g at in
    let there : In (graph_nodes g) (an_entry g.owner p) = point_there an_entry_point g p e in
    subst (λ q. In (all_nodes chart.graphs) (an_entry q p)) (owner_is chart path g at) (In_whole graph_nodes chart.graphs g (an_entry g.owner p) inside there)

target_there : (chart : Chart) (g : Graph) (t : Target) → In chart.graphs g → target_is_there chart g t ≡ true → In (all_nodes chart.graphs) (node_of g.owner t)
unfolding kind_node
target_there chart g (to_state s) h e = In_whole graph_nodes chart.graphs g (a_state (s ∷ g.owner)) h (state_there g s e)
target_there chart g (to_choice c) h e = In_whole graph_nodes chart.graphs g (a_choice g.owner c) h (choice_there g c e)
target_there chart g (to_point p s) h e = In_whole graph_nodes chart.graphs g (a_state (s ∷ g.owner)) h (state_there g s (and_both (has_state g s) (option_map_or (λ inner. has_point a_transition_point inner p) (graph_at chart (s ∷ g.owner)) false) e).0)
target_there chart g (to_entry x s) h e = entry_there chart (s ∷ g.owner) x (graph_at chart (s ∷ g.owner)) refl (and_both (has_state g s) (option_map_or (λ inner. has_point an_entry_point inner x) (graph_at chart (s ∷ g.owner)) false) e).1
target_there chart g (to_exit x) h e = In_whole graph_nodes chart.graphs g (an_exit g.owner x) h (point_there an_exit_point g x e)

-- ---- steps are transitions of graphs

abbrev pub IsStep : List Graph → StepTree → Type 0
IsStep graphs s = (g : Graph) × (t : Transition) × In graphs g × In g.transitions t × (step_of g.owner t ≡ s)

pub of_graph : (owner : Path) (ts : List Transition) (s : StepTree) → In (map (step_of owner) ts) s → (t : Transition) × In ts t × (step_of owner t ≡ s)
of_graph owner [] s h = absurd h
of_graph owner (t ∷ ts) s (inl e) = (t, inl refl, e)
of_graph owner (t ∷ ts) s (inr h) = let r = of_graph owner ts s h in (r.0, inr r.1, r.2)

step_later : (g : Graph) (graphs : List Graph) (s : StepTree) → IsStep graphs s → IsStep (g ∷ graphs) s
step_later g graphs s r = (r.0, r.1, inr r.2, r.3, r.4)

step_split : (g : Graph) (graphs : List Graph) (xs ys : List StepTree) (s : StepTree) (b : Bool) → (In xs s → IsStep graphs s) → (In ys s → IsStep graphs s) → In (cond b xs (steps_in g ++ ys)) s → IsStep (g ∷ graphs) s
step_split g graphs xs ys s true f f' h = step_later g graphs s (f h)
step_split g graphs xs ys s false f f' h = elim (In_append (steps_in g) ys s h) [ inl i ↦ (let r = of_graph g.owner g.transitions s i in (g, r.0, inl refl, r.1, r.2)) | inr i ↦ step_later g graphs s (f' i) ]

pub step_is : (seen : List (List ℕ)) (graphs : List Graph) (s : StepTree) → In (steps_behind seen graphs) s → IsStep graphs s
unfolding steps_behind
step_is seen [] s h = absurd h
step_is seen (g ∷ graphs) s h =
    step_split g graphs (steps_behind seen graphs) (steps_behind (seen ++ codes g.owner ∷ []) graphs) s (is_among seen (codes g.owner)) (step_is seen graphs s) (step_is (seen ++ codes g.owner ∷ []) graphs s) h

pub all_passed : {A : Type 0} (p : A → Bool) (xs : List A) (x : A) → list_all p xs ≡ true → In xs x → p x ≡ true
all_passed p [] x e h = absurd h
all_passed p (y ∷ xs) x e (inl s) = subst (λ z. p z ≡ true) s (and_both (p y) (list_all p xs) e).0
all_passed p (y ∷ xs) x e (inr h) = all_passed p xs x (and_both (p y) (list_all p xs) e).1 h

-- the node after a step is one of the chart
step_there : (chart : Chart) (s : StepTree) → IsValid chart → In (steps_of chart) s → (n : Node) × In (all_nodes chart.graphs) n × (node_key n ≡ s.target)
step_there chart s valid h =
    let r = step_is [] chart.graphs s h in
    let g = r.0 in
    let t = r.1 in
    let right = (All-contains (HasRightNames chart) chart.graphs g valid.names (Contains-from_In chart.graphs g r.2)).transitions in
    let one = all_passed (is_right_transition chart g) g.transitions t right r.3 in
    let both = and_both (source_is_there chart g t.source && target_is_there chart g t.target) (has_right_parts t) one in
    let there = and_both (source_is_there chart g t.source) (target_is_there chart g t.target) both.0 in
    (node_of g.owner t.target, target_there chart g t.target r.2 there.1, sym (target_is g.owner t.target) ∙ ap (λ (s : StepTree). s.target) r.4)

picked_split : (steps : List StepTree) (i : ℕ) (rest : List StepTree) (s : StepTree) (o : Option StepTree) → slice_get steps i ≡ o → (In rest s → In steps s) → In (cons_option o rest) s → In steps s
picked_split steps i rest s (Some t) at again (inl e) = subst (In steps) e (In-slice_get steps i t at)
picked_split steps i rest s (Some t) at again (inr h) = again h
picked_split steps i rest s None at again h = again h

-- steps that are picked are steps
pub picked_In : (steps : List StepTree) (targets : List ℕ) (s : StepTree) → In (picked steps targets) s → In steps s
picked_In steps [] s h = absurd h
picked_In steps (i ∷ targets) s h = picked_split steps i (picked steps targets) s (slice_get steps i) refl (picked_In steps targets s) h

-- no numbering has more nodes than the chart
pub few_nodes : (chart : Chart) → IsValid chart → (keys : List (List ℕ)) (targets : List ℕ) → AreNumbered (steps_of chart) keys targets → length keys ≤ sum (map nodes_in chart.graphs)
few_nodes chart valid keys targets numbers =
    let nodes = map node_key (all_nodes chart.graphs) in
    let bound : length keys ≤ length nodes = length-le_from_is_member same_laws keys nodes numbers.distinct member in
    omega (arith, bound, length-map (all_nodes chart.graphs) node_key, all_size chart.graphs)
  where
    known : (q : List ℕ) → (k : List ℕ) × In keys k × (same q k ≡ true) → list_any (same q) (map node_key (all_nodes chart.graphs)) ≡ true
    known q (k, h, e) =
        let r = from_target (picked (steps_of chart) targets) (subst (λ l. In l k) numbers.named h) in
        let n = step_there chart r.0 valid (picked_In (steps_of chart) targets r.0 r.1) in
        In_any (same q) (map node_key (all_nodes chart.graphs)) (node_key n.0) (In-map node_key (all_nodes chart.graphs) n.0 n.1) (subst (λ x. same q x ≡ true) (sym (n.2 ∙ r.2)) e)
      where
        from_target : (ss : List StepTree) → In (map (λ (s : StepTree). s.target) ss) k → (s : StepTree) × In ss s × (s.target ≡ k)
        from_target [] h = absurd h
        from_target (s ∷ ss) (inl e) = (s, inl refl, e)
        from_target (s ∷ ss) (inr i) = let r = from_target ss i in (r.0, inr r.1, r.2)

    member : (q : List ℕ) → list_any (same q) keys ≡ true → list_any (same q) (map node_key (all_nodes chart.graphs)) ≡ true
    member q e = known q (any_In (same q) keys e)
