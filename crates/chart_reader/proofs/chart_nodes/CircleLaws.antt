-- Circles of numbers are circles of nodes.
use Rattle.std.proofs.Common.{◌≡◌, ◌⊎◌, inl, inr, ℕ, zero, suc, ◌<◌, Bool, true, false, cond, not, List, [], ◌∷◌, ◌++◌, length, get_or, map, refl, sym, ap, ◌∙◌, subst, arith, Option, Some, None, nat_eq}
use Rattle.std.specs.Prelude.{◌||◌, ◌&&◌, is_none, is_some, slice_get}
use Rattle.std.specs.List.{list_any, Contains}
use Rattle.std.specs.Option.{option_map_or}
use Rattle.std.specs.Global.{Vec}
use Rattle.std.proofs.lemmas.List.{get_or-map, length-map}
use Rattle.std.proofs.lemmas.List.Quantifiers.{position-Some}
use Rattle.std.proofs.lemmas.Option.{slice_get-get_or}
use Rattle.std.proofs.lemmas.Bool.Decides.{nat_tests}
use lib.Pointwise.{bytes_decides}
use Rattle.name_tables.specs.name_numbers.Names.{same, is_among}
use Rattle.name_tables.proofs.name_index.Lists.{some_place}
use Rattle.number_graphs.specs.class_containment.Containment.{has_part, directly, through, NoneContainsItself}
use Rattle.number_graphs.specs.class_containment.Containment as containment
use Rattle.number_graphs.specs.class_containment.Walks.{Orders}
use Rattle.chart_model.specs.Chart.{Path, Target, to_state, to_choice, to_point, to_entry, to_exit, Transition, Graph, Chart}
use Rattle.chart_model.specs.Named.{Placed, Node, a_state, a_choice, an_entry, an_exit, node_of}
use Rattle.chart_model.specs.Valid.{onward, LeadsTo, at_once, further}
use Rattle.chart_reader.specs.chart_nodes.Keys.{codes, node_key, target_key}
use Rattle.chart_reader.specs.chart_nodes.Steps.{StepTree, step_of, steps_in, steps_behind, steps_of}
use Rattle.chart_reader.specs.chart_nodes.Circles.{HasCircle, number_of, parts_of, targets_of}
use Rattle.chart_reader.proofs.chart_nodes.KeyLaws.{same_codes}
use Rattle.chart_reader.proofs.chart_nodes.Members.{In, In-from_Contains, Contains-from_In, In-made, In-make, any_In, In_any}
use Rattle.chart_reader.proofs.chart_nodes.Linking.{is_at, goes, part_is, part_within}
use Rattle.chart_reader.proofs.chart_nodes.Onward.{path_is, onward_is}

-- ---- keys are those of nodes

pub target_is : (graph : Path) (t : Target) → target_key graph t ≡ node_key (node_of graph t)
target_is graph (to_state s) = refl
target_is graph (to_choice c) = refl
target_is graph (to_point p s) = refl
target_is graph (to_entry e s) = refl
target_is graph (to_exit x) = refl

key_is : (a b : List ℕ) → same a b ≡ true → a ≡ b
key_is a b = (bytes_decides a b).0

key_own : (a b : List ℕ) → a ≡ b → same a b ≡ true
key_own a b = (bytes_decides a b).1

paths_are : (p q : Path) → same (codes p) (codes q) ≡ true → p ≡ q
paths_are p q e = path_is p q (sym (same_codes p q) ∙ e)

-- nodes with one key are one
pub nodes_are : (m n : Node) → same (node_key m) (node_key n) ≡ true → m ≡ n
nodes_are (a_state p) (a_state q) e = ap a_state (paths_are p q e)
nodes_are (a_state p) (a_choice q d) e = absurd cc
nodes_are (a_state p) (an_entry q d) e = absurd cc
nodes_are (a_state p) (an_exit q d) e = absurd cc
nodes_are (a_choice p c) (a_state q) e = absurd cc
nodes_are (a_choice p c) (a_choice q d) e = let s = paths_are (c ∷ p) (d ∷ q) e in cc
nodes_are (a_choice p c) (an_entry q d) e = absurd cc
nodes_are (a_choice p c) (an_exit q d) e = absurd cc
nodes_are (an_entry p c) (a_state q) e = absurd cc
nodes_are (an_entry p c) (a_choice q d) e = absurd cc
nodes_are (an_entry p c) (an_entry q d) e = let s = paths_are (c ∷ p) (d ∷ q) e in cc
nodes_are (an_entry p c) (an_exit q d) e = absurd cc
nodes_are (an_exit p c) (a_state q) e = absurd cc
nodes_are (an_exit p c) (a_choice q d) e = absurd cc
nodes_are (an_exit p c) (an_entry q d) e = absurd cc
nodes_are (an_exit p c) (an_exit q d) e = let s = paths_are (c ∷ p) (d ∷ q) e in cc

-- the node that a step leads to
abbrev pub node_after : StepTree → Node
node_after s = node_of s.placed.graph s.placed.transition.target

-- each step has the key of its node
abbrev pub AreKeyed : List StepTree → Type 0
AreKeyed steps = (s : StepTree) → In steps s → s.target ≡ node_key (node_after s)

In-append : {X : Type 0} (xs ys : List X) (z : X) → In (xs ++ ys) z → In xs z ⊎ In ys z
In-append [] ys z h = inr h
In-append (x ∷ xs) ys z (inl e) = inl (inl e)
In-append (x ∷ xs) ys z (inr h) = elim (In-append xs ys z h) [ inl i ↦ inl (inr i) | inr i ↦ inr i ]

keyed_graph : (g : Path) (ts : List Transition) → AreKeyed (map (step_of g) ts)
keyed_graph g [] s h = absurd h
keyed_graph g (t ∷ ts) s (inl e) = subst (λ (s : StepTree). s.target ≡ node_key (node_after s)) e (target_is g t.target)
keyed_graph g (t ∷ ts) s (inr h) = keyed_graph g ts s h

keyed_split : (b : Bool) (xs ys zs : List StepTree) → AreKeyed xs → AreKeyed ys → AreKeyed zs → AreKeyed (cond b xs (ys ++ zs))
keyed_split true xs ys zs kx ky kz = kx
keyed_split false xs ys zs kx ky kz = λ s h. elim (In-append ys zs s h) [ inl i ↦ ky s i | inr i ↦ kz s i ]

keyed_behind : (seen : List (List ℕ)) (gs : List Graph) → AreKeyed (steps_behind seen gs)
unfolding steps_behind
keyed_behind seen [] = λ s h. absurd h
keyed_behind seen (g ∷ gs) =
    keyed_split (is_among seen (codes g.owner)) (steps_behind seen gs) (steps_in g) (steps_behind (seen ++ codes g.owner ∷ []) gs) (keyed_behind seen gs) (keyed_graph g.owner g.transitions) (keyed_behind (seen ++ codes g.owner ∷ []) gs)

pub keyed : (chart : Chart) → AreKeyed (steps_of chart)
keyed chart = keyed_behind [] chart.graphs

-- ---- numbers of nodes

-- the node with a number
abbrev pub node_at : List StepTree → ℕ → Node
node_at steps i = option_map_or node_after (slice_get steps i) (a_state [])

In-get_or : {X : Type 0} (xs : List X) (i : ℕ) (d : X) → i < length xs → In xs (get_or xs i d)
In-get_or [] i d h = absurd (omega arith)
In-get_or (x ∷ xs) zero d h = inl refl
In-get_or (x ∷ xs) (suc i) d h = inr (In-get_or xs i d (omega arith))

-- a key with a number is that of the node with the number
pub key_at : (steps : List StepTree) → AreKeyed steps → (d : StepTree) (key : List ℕ) (i : ℕ) → number_of (targets_of steps) key ≡ Some i → (i < length steps) × (key ≡ node_key (node_at steps i))
key_at steps k d key i e =
    let found = position-Some (same key) (targets_of steps) i d.target e in
    let within : i < length steps = omega (arith, found.0, length-map steps (λ (s : StepTree). s.target)) in
    let is : key ≡ (get_or steps i d).target = key_is key (get_or (targets_of steps) i d.target) found.1 ∙ get_or-map (λ (s : StepTree). s.target) steps i d d.target within in
    (within, is ∙ k (get_or steps i d) (In-get_or steps i d within) ∙ ap node_key (sym (ap (λ o. option_map_or node_after o (a_state [])) (slice_get-get_or steps i d within))))

some_number : (o : Option ℕ) → is_some o ≡ true → (i : ℕ) × (o ≡ Some i)
some_number (Some i) h = (i, refl)
some_number None h = absurd cc

or_true : (b : Bool) → (b || true) ≡ true
or_true true = refl
or_true false = refl

among : (s : StepTree) (steps : List StepTree) → In steps s → list_any (same s.target) (targets_of steps) ≡ true
among s [] h = absurd h
among s (t ∷ steps) (inl e) = ap (λ b. b || list_any (same s.target) (targets_of steps)) (key_own s.target t.target (sym (ap (λ (s : StepTree). s.target) e)))
among s (t ∷ steps) (inr h) = ap (λ b. same s.target t.target || b) (among s steps h) ∙ or_true (same s.target t.target)

-- the node after a step has a number
pub number_after : (steps : List StepTree) (s : StepTree) → In steps s → (i : ℕ) × (number_of (targets_of steps) s.target ≡ Some i)
number_after steps s h = some_number (number_of (targets_of steps) s.target) (some_place (same s.target) (targets_of steps) ∙ among s steps h)

at_is : (o : Option ℕ) (i : ℕ) → is_at o i ≡ true → o ≡ Some i
at_is (Some n) i e = let same : n ≡ i = grind (arith, nat_tests) in ap Some same
at_is None i e = absurd cc

is_at_own : (o : Option ℕ) (i : ℕ) → o ≡ Some i → is_at o i ≡ true
is_at_own o i e = rw e (let s : nat_eq i i ≡ true = grind (arith, nat_tests) in s)

and_both : (a b : Bool) → (a && b) ≡ true → (a ≡ true) × (b ≡ true)
and_both true b e = (refl, e)
and_both false b e = absurd cc

-- ---- circles

-- a part by number is a node that a node leads to
part_leads : (chart : Chart) (i k : ℕ) → has_part (parts_of (steps_of chart)) i k ≡ true → LeadsTo chart (node_at (steps_of chart) i) (node_at (steps_of chart) k)
part_leads chart i k e =
    let steps = steps_of chart in
    let within : i < length steps = part_within steps i k e in
    let found = any_In (goes (targets_of steps) i k) steps (sym (part_is steps i k within) ∙ e) in
    let s = found.0 in
    let both = and_both (is_at (number_of (targets_of steps) s.origin) i) (is_at (number_of (targets_of steps) s.target) k) found.2 in
    let begins = key_at steps (keyed chart) s s.origin i (at_is (number_of (targets_of steps) s.origin) i both.0) in
    let leads = key_at steps (keyed chart) s s.target k (at_is (number_of (targets_of steps) s.target) k both.1) in
    let node : node_after s ≡ node_at steps k = nodes_are (node_after s) (node_at steps k) (key_own (node_key (node_after s)) (node_key (node_at steps k)) (sym (keyed chart s found.1) ∙ leads.1)) in
    let one : In (onward chart (node_at steps i)) s.placed =
    subst (λ l. In l s.placed) (sym (onward_is chart (node_at steps i))) (In-make (λ (s : StepTree). s.placed) (λ (s : StepTree). same s.origin (node_key (node_at steps i))) steps s found.1 (key_own s.origin (node_key (node_at steps i)) begins.1))
    in
    subst (λ n. LeadsTo chart (node_at steps i) n) node (at_once s.placed (Contains-from_In (onward chart (node_at steps i)) s.placed one))

leads_on : (chart : Chart) (l m n : Node) → LeadsTo chart l m → LeadsTo chart m n → LeadsTo chart l n
leads_on chart l m _ a (at_once t h) = further m t a h
leads_on chart l m _ a (further n t b h) = further n t (leads_on chart l m n a b) h

contained_leads : (chart : Chart) (i j : ℕ) → containment.Contains (parts_of (steps_of chart)) i j → LeadsTo chart (node_at (steps_of chart) i) (node_at (steps_of chart) j)
contained_leads chart _ _ (directly i j e) = part_leads chart i j e
contained_leads chart _ _ (through i k j e c) = leads_on chart (node_at (steps_of chart) i) (node_at (steps_of chart) k) (node_at (steps_of chart) j) (part_leads chart i k e) (contained_leads chart k j c)

contains_on : (parts : List (List ℕ)) (i k j : ℕ) → containment.Contains parts i k → has_part parts k j ≡ true → containment.Contains parts i j
contains_on parts _ _ j (directly i k e) h = through i k j e (directly k j h)
contains_on parts _ _ j (through i l k e c) h = through i l j e (contains_on parts l k j c h)

-- one step from a node with a number
step_part : (chart : Chart) (m : Node) (i : ℕ) (t : Placed) → number_of (targets_of (steps_of chart)) (node_key m) ≡ Some i → Contains (onward chart m) t
    → (k : ℕ) × (number_of (targets_of (steps_of chart)) (node_key (node_of t.graph t.transition.target)) ≡ Some k) × (has_part (parts_of (steps_of chart)) i k ≡ true)
step_part chart m i t e h =
    let steps = steps_of chart in
    let found = In-made (λ (s : StepTree). s.placed) (λ (s : StepTree). same s.origin (node_key m)) steps t (subst (λ l. In l t) (onward_is chart m) (In-from_Contains (onward chart m) t h)) in
    let s = found.0 in
    let after = number_after steps s found.1 in
    let key : s.origin ≡ node_key m = key_is s.origin (node_key m) found.2 in
    let begins : number_of (targets_of steps) s.origin ≡ Some i = ap (number_of (targets_of steps)) key ∙ e in
    let within : i < length steps = (key_at steps (keyed chart) s (node_key m) i e).0 in
    let does : goes (targets_of steps) i after.0 s ≡ true =
    ap (λ b. b && is_at (number_of (targets_of steps) s.target) after.0) (is_at_own (number_of (targets_of steps) s.origin) i begins) ∙ is_at_own (number_of (targets_of steps) s.target) after.0 after.1
    in
    let number : number_of (targets_of steps) (node_key (node_of t.graph t.transition.target)) ≡ Some after.0 =
    subst (λ (p : Placed). number_of (targets_of steps) (node_key (node_of p.graph p.transition.target)) ≡ Some after.0) found.3 (ap (number_of (targets_of steps)) (sym (keyed chart s found.1)) ∙ after.1)
    in
    (after.0, number, part_is steps i after.0 within ∙ In_any (goes (targets_of steps) i after.0) steps s found.1 does)

leads_contained : (chart : Chart) (m n : Node) (i : ℕ) → number_of (targets_of (steps_of chart)) (node_key m) ≡ Some i → LeadsTo chart m n
    → (k : ℕ) × (number_of (targets_of (steps_of chart)) (node_key n) ≡ Some k) × containment.Contains (parts_of (steps_of chart)) i k
leads_contained chart m _ i e (at_once t h) = let s = step_part chart m i t e h in (s.0, s.1, directly i s.0 s.2)
leads_contained chart m _ i e (further n t l h) =
    let before = leads_contained chart m n i e l in
    let s = step_part chart n before.0 t before.1 h in
    (s.0, s.1, contains_on (parts_of (steps_of chart)) i before.0 s.0 before.2 s.2)

-- a node to which another leads has a number
end_number : (chart : Chart) (n : Node) (t : Placed) → Contains (onward chart n) t → (k : ℕ) × (number_of (targets_of (steps_of chart)) (node_key (node_of t.graph t.transition.target)) ≡ Some k)
end_number chart n t h =
    let steps = steps_of chart in
    let found = In-made (λ (s : StepTree). s.placed) (λ (s : StepTree). same s.origin (node_key n)) steps t (subst (λ l. In l t) (onward_is chart n) (In-from_Contains (onward chart n) t h)) in
    let s = found.0 in
    let after = number_after steps s found.1 in
    (after.0, subst (λ (p : Placed). number_of (targets_of steps) (node_key (node_of p.graph p.transition.target)) ≡ Some after.0) found.3 (ap (number_of (targets_of steps)) (sym (keyed chart s found.1)) ∙ after.1))

led_number : (chart : Chart) (m n : Node) → LeadsTo chart m n → (k : ℕ) × (number_of (targets_of (steps_of chart)) (node_key n) ≡ Some k)
led_number chart m _ (at_once t h) = end_number chart m t h
led_number chart m _ (further n t l h) = end_number chart n t h

same_number : (o : Option ℕ) (i k : ℕ) → o ≡ Some i → o ≡ Some k → i ≡ k
same_number o i k e f = cc

no_circle : (chart : Chart) → NoneContainsItself (parts_of (steps_of chart)) → (n : Node) → LeadsTo chart n n → ⊥
no_circle chart none n l =
    let i = led_number chart n n l in
    let c = leads_contained chart n n i.0 i.1 l in
    let one : i.0 ≡ c.0 = same_number (number_of (targets_of (steps_of chart)) (node_key n)) i.0 c.0 i.1 c.1 in
    none i.0 (subst (λ k. containment.Contains (parts_of (steps_of chart)) i.0 k) (sym one) c.2)

told : (chart : Chart) (order : Option (Vec ℕ)) → Orders (parts_of (steps_of chart)) order → HasCircle chart (is_none order)
told chart None (i, c) = (node_at (steps_of chart) i, contained_leads chart i i c)
told chart (Some v) o = no_circle chart o.1

-- an order, or none, says whether there is a circle
pub circle_is : (chart : Chart) (steps : List StepTree) (order : Option (Vec ℕ)) (b : Bool) → steps ≡ steps_of chart → Orders (parts_of steps) order → b ≡ is_none order → HasCircle chart b
circle_is chart steps order b e o r = subst (λ b. HasCircle chart b) (sym r) (told chart order (subst (λ (s : List StepTree). Orders (parts_of s) order) e o))

pub none_is : {A : Type 0} (o : Option A) (b : Bool) → is_some o ≡ not b → b ≡ is_none o
none_is (Some x) true e = absurd cc
none_is (Some x) false e = refl
none_is None true e = refl
none_is None false e = absurd cc
