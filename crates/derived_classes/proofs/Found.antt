-- Refinements that are looked for in graphs are found where graphs have what they name.
use Rattle.std.proofs.Common.{◌≡◌, ◌⊎◌, inl, inr, ℕ, zero, suc, ◌+◌, ◌<◌, ◌≤◌, Bool, true, false, cond, not, nat_eq, nat_lt, List, [], ◌∷◌, ◌++◌, length, map, get_or, Option, Some, None, Bor, refl, sym, ap, ◌∙◌, subst, arith}
use Rattle.std.specs.Prelude.{◌&&◌, ◌||◌, position, option_map, slice_get, slice_set, if◌then◌else◌}
use Rattle.std.specs.Global.{Vec}
use Rattle.std.specs.List.{position_or_len}
use Rattle.std.specs.Option.{option_and_then, option_map_or}
use Rattle.std.proofs.lemmas.Bool.Decides.{nat_tests}
use Rattle.std.proofs.lemmas.List.{map-append}
use Rattle.std.proofs.lemmas.List.Folds.{list_all-append}
use Rattle.name_tables.specs.name_numbers.Names.{same, is_among}
use Rattle.room_ast.specs.ChartTree.{AState, AChoice, APoint, ATransition, ARefinement, ChangeTree, OfState, OfTransition, StateTree, StateOf, GraphItems, no_items, item, state_view, graph_view}
use Rattle.room_ast.specs.declared.chart.GraphItem.{GraphItem}
use Rattle.room_ast.specs.declared.chart.State.{State}
use Rattle.derived_classes.specs.Refining.{Refining, first_state, found_or, graph_in, is_named, transitions_named, with_name}
use Rattle.derived_classes.specs.Searching.{states_in, name_of, NamesTree, note, note_item, note_items, no_names, stands_once, SearchTree, are_named, all_succeed, inside, sought_at, sought_in, passed, all_passed, searched, next_of, names_sought, effort, toil}
use Rattle.derived_classes.specs.Views.{refining_view, refining_views, search_view, search_views}
use Rattle.derived_classes.specs.declared.refining.paths.Pending.{Pending}
use Rattle.derived_classes.specs.declared.rules.search.Search.{Search}
use Rattle.derived_classes.proofs.Lists.{mapped_length}
use Rattle.derived_classes.proofs.Seen.{same_is, same_own, among_push, among_with}

-- ---- what the code does to searches

abbrev search_of : GraphItems → List Refining → SearchTree
search_of g rs = record { graph = g; sought = rs }

sought_one : (x t : Search) (p : Pending) → t.graph ≡ x.graph → t.sought.items ≡ x.sought.items ++ p ∷ [] → search_view t ≡ search_of (graph_view x.graph.now) (refining_views x.sought.items ++ refining_view p ∷ [])
sought_one x t p graph sought =
    ap (λ (g : Bor (List GraphItem)). search_of (graph_view g.now) (refining_views t.sought.items)) graph ∙ ap (λ (ps : List Pending). search_of (graph_view x.graph.now) (refining_views ps)) sought
    ∙ ap (search_of (graph_view x.graph.now)) (map-append refining_view x.sought.items (p ∷ []))

pub sought_set : (ss : List Search) (k : ℕ) (s t : Search) (p : Pending) → k < length ss → s ≡ get_or ss k s → t.graph ≡ s.graph → t.sought.items ≡ s.sought.items ++ p ∷ []
    → search_views (slice_set ss k t) ≡ sought_at (search_views ss) k (refining_view p)
sought_set [] k s t p lt here graph sought = absurd (omega arith)
sought_set (x ∷ xs) zero s t p lt here graph sought =
    ap (λ (u : SearchTree). u ∷ search_views xs) (sought_one x t p (graph ∙ ap (λ (u : Search). u.graph) here) (sought ∙ ap (λ (u : Search). u.sought.items ++ p ∷ []) here))
sought_set (x ∷ xs) (suc k) s t p lt here graph sought = ap (λ us. search_view x ∷ us) (sought_set xs k s t p (omega (arith, lt)) here graph sought)

pub sought_past : (ss : List Search) (k : ℕ) (r : Refining) → length ss ≤ k → sought_at (search_views ss) k r ≡ search_views ss
sought_past [] k r le = refl
sought_past (s ∷ ss) zero r le = absurd (omega (arith, le))
sought_past (s ∷ ss) (suc k) r le = ap (λ us. search_view s ∷ us) (sought_past ss k r (omega (arith, le)))

pub none_sought : (ps : List Pending) → nat_eq (length (refining_views ps)) 0 ≡ nat_eq (length ps) 0
none_sought ps = ap (λ n. nat_eq n 0) (mapped_length refining_view ps)

pub all_further : (xs ys : List Search) → search_views (xs ++ ys) ≡ search_views xs ++ search_views ys
all_further xs ys = map-append search_view xs ys

-- ---- tests

and_swap : (a b c : Bool) → (a && (b && c)) ≡ (b && (a && c))
and_swap true b c = refl
and_swap false true c = refl
and_swap false false c = refl

and_group : (a b c : Bool) → ((a && b) && c) ≡ (a && (b && c))
and_group true b c = refl
and_group false b c = refl

and_true : (a : Bool) → (a && true) ≡ a
and_true true = refl
and_true false = refl

and_false : (a : Bool) → (a && false) ≡ false
and_false true = refl
and_false false = refl

and_comm : (a b : Bool) → (a && b) ≡ (b && a)
and_comm true b = sym (and_true b)
and_comm false b = sym (and_false b)

same_turned : (a b : List ℕ) → same a b ≡ same b a
same_turned a b = go (same a b) (same b a) refl refl
  where
    go : (s t : Bool) → same a b ≡ s → same b a ≡ t → s ≡ t
    go true true e f = refl
    go false false e f = refl
    go true false e f = sym (subst (λ x. same x a ≡ true) (same_is a b e) (same_own a)) ∙ f
    go false true e f = sym e ∙ subst (λ x. same x b ≡ true) (same_is b a f) (same_own b)

-- ---- the first state of a name

abbrev first_named : List ℕ → List StateTree → Option StateTree
first_named name [] = None
first_named name (s ∷ ss) = if same (name_of s) name then Some s else first_named name ss

first_is : (name : List ℕ) (g : GraphItems) → first_state name g ≡ first_named name (states_in g)
first_is name no_items = refl
first_is name (item (AState (StateOf n b)) is) = go (same n name) (first_is name is)
  where
    go : (t : Bool) → first_state name is ≡ first_named name (states_in is) → found_or (if t then Some (StateOf n b) else None) (first_state name is) ≡ (if t then Some (StateOf n b) else first_named name (states_in is))
    go true same_first = refl
    go false same_first = same_first
first_is name (item (AChoice c) is) = first_is name is
first_is name (item (APoint p) is) = first_is name is
first_is name (item (ATransition t) is) = first_is name is
first_is name (item (ARefinement path change) is) = first_is name is

one_up : (n : ℕ) → 1 + n ≡ suc n
one_up n = omega arith

less_first : (n : ℕ) → nat_lt 0 (suc n) ≡ true
less_first n = grind (arith, nat_tests)

next_less : (n most : ℕ) (rest : Bool) → nat_lt n most ≡ rest → nat_lt (1 + n) (suc most) ≡ rest
next_less n most rest h = grind (arith, nat_tests)

next_place : (n most : ℕ) → cond (nat_lt (1 + n) (suc most)) (Some (1 + n)) None ≡ option_map suc (cond (nat_lt n most) (Some n) None)
next_place n most = ap (λ t. cond t (Some (1 + n)) None) (next_less n most (nat_lt n most) refl) ∙ go (nat_lt n most)
  where
    go : (t : Bool) → cond t (Some (1 + n)) None ≡ option_map suc (cond t (Some n) None)
    go true = ap Some (one_up n)
    go false = refl

position_first : {X : Type 0} (p : X → Bool) (x : X) (xs : List X) → position p (x ∷ xs) ≡ (if p x then Some 0 else option_map suc (position p xs))
position_first p x xs = go (p x)
  where
    go : (t : Bool) → cond (nat_lt (cond (not t) (1 + position_or_len p xs) 0) (suc (length xs))) (Some (cond (not t) (1 + position_or_len p xs) 0)) None ≡ (if t then Some 0 else option_map suc (position p xs))
    go true = ap (λ t. cond t (Some 0) None) (less_first (length xs))
    go false = next_place (position_or_len p xs) (length xs)

-- What stands at the place of a name: the first state that has it.
abbrev StandsAt : List ℕ → List StateTree → Option ℕ → Type 0
StandsAt name ss None = first_named name ss ≡ None
StandsAt name ss (Some k) = (s : StateTree) × ((slice_get ss k ≡ Some s) × (first_named name ss ≡ Some s))

stands_at : (name : List ℕ) (ss : List StateTree) → StandsAt name ss (position (same name) (map name_of ss))
stands_at name [] = refl
stands_at name (s ∷ ss) = subst (StandsAt name (s ∷ ss)) (sym (position_first (same name) (name_of s) (map name_of ss))) (go (same name (name_of s)) refl (stands_at name ss))
  where
    first : (t : Bool) → same name (name_of s) ≡ t → first_named name (s ∷ ss) ≡ (if t then Some s else first_named name ss)
    first t e = ap (λ u. if u then Some s else first_named name ss) (same_turned (name_of s) name ∙ e)

    behind : same name (name_of s) ≡ false → (o : Option ℕ) → StandsAt name ss o → StandsAt name (s ∷ ss) (option_map suc o)
    behind e None at = first false e ∙ at
    behind e (Some k) (x, (here, is)) = (x, (here, first false e ∙ is))

    go : (t : Bool) → same name (name_of s) ≡ t → StandsAt name ss (position (same name) (map name_of ss)) → StandsAt name (s ∷ ss) (if t then Some 0 else option_map suc (position (same name) (map name_of ss)))
    go true e at = (s, (refl, first true e))
    go false e at = behind e (position (same name) (map name_of ss)) at

-- ---- the names of transitions

or_true : (a : Bool) → (a || true) ≡ true
or_true true = refl
or_true false = refl

or_false : (a : Bool) → (a || false) ≡ a
or_false true = refl
or_false false = refl

-- whether exactly one has a name once so many more have it
abbrev one_of : Bool → Bool → ℕ → Bool
one_of true again more = not again && nat_eq more 0
one_of false again more = not again && nat_eq more 1

older : (more : ℕ) (o a : Bool) → o ≡ true → one_of o true more ≡ one_of o a (1 + more)
older more true true e = refl
older more true false e = grind (arith, nat_tests)
older more false a e = absurd cc

newer : (more : ℕ) (o a : Bool) → o ≡ false → one_of true a more ≡ one_of o a (1 + more)
newer more false true e = refl
newer more false false e = grind (arith, nat_tests)
newer more true a e = absurd cc

-- the names with one more, where it is among them or not
abbrev noted : List ℕ → NamesTree → Bool → NamesTree
noted name ts t = if t then record ts { again = with_name name ts.again } else record ts { once = ts.once ++ name ∷ [] }

abbrev noted_if : NamesTree → Option (List ℕ) → NamesTree
noted_if ts name = option_map_or (λ n. note n ts) name ts

one_with : (name q : List ℕ) (ts : NamesTree) (more : ℕ) → one_of (is_among (note name ts).once q) (is_among (note name ts).again q) more ≡ one_of (is_among ts.once q) (is_among ts.again q) (if same name q then 1 + more else more)
one_with name q ts more = go (same name q) refl
  where
    named : (t : Bool) → is_among ts.once name ≡ t → same q name ≡ true → one_of (is_among (noted name ts t).once q) (is_among (noted name ts t).again q) more ≡ one_of (is_among ts.once q) (is_among ts.again q) (1 + more)
    named true e here =
        let there : is_among ts.once q ≡ true = subst (λ x. is_among ts.once x ≡ true) (sym (same_is q name here)) e in
        ap (λ a. one_of (is_among ts.once q) a more) (among_with ts.again name q ∙ ap (λ t. t || is_among ts.again q) here) ∙ older more (is_among ts.once q) (is_among ts.again q) there
    named false e here =
        let gone : is_among ts.once q ≡ false = subst (λ x. is_among ts.once x ≡ false) (sym (same_is q name here)) e in
        ap (λ o. one_of o (is_among ts.again q) more) (among_push ts.once name q ∙ ap (λ t. is_among ts.once q || t) here ∙ or_true (is_among ts.once q))
        ∙ newer more (is_among ts.once q) (is_among ts.again q) gone

    other : (t : Bool) → same q name ≡ false → one_of (is_among (noted name ts t).once q) (is_among (noted name ts t).again q) more ≡ one_of (is_among ts.once q) (is_among ts.again q) more
    other true miss = ap (λ a. one_of (is_among ts.once q) a more) (among_with ts.again name q ∙ ap (λ t. t || is_among ts.again q) miss)
    other false miss = ap (λ o. one_of o (is_among ts.again q) more) (among_push ts.once name q ∙ ap (λ t. is_among ts.once q || t) miss ∙ or_false (is_among ts.once q))

    go : (t : Bool) → same name q ≡ t → one_of (is_among (note name ts).once q) (is_among (note name ts).again q) more ≡ one_of (is_among ts.once q) (is_among ts.again q) (if t then 1 + more else more)
    go true e = named (is_among ts.once name) refl (same_turned q name ∙ e)
    go false e = other (is_among ts.once name) (same_turned q name ∙ e)

none_more : (o a : Bool) → (o && not a) ≡ one_of o a 0
none_more true true = refl
none_more true false = refl
none_more false true = refl
none_more false false = refl

once_counted : (q : List ℕ) (g : GraphItems) (ts : NamesTree) → stands_once (note_items g ts) q ≡ one_of (is_among ts.once q) (is_among ts.again q) (transitions_named q g)
once_counted q no_items ts = none_more (is_among ts.once q) (is_among ts.again q)
once_counted q (item (AState s) is) ts = once_counted q is ts
once_counted q (item (AChoice c) is) ts = once_counted q is ts
once_counted q (item (APoint p) is) ts = once_counted q is ts
once_counted q (item (ARefinement path change) is) ts = once_counted q is ts
once_counted q (item (ATransition t) is) ts = once_counted q is (note_item (ATransition t) ts) ∙ go t.name
  where
    go : (name : Option (List ℕ)) → one_of (is_among (noted_if ts name).once q) (is_among (noted_if ts name).again q) (transitions_named q is)
        ≡ one_of (is_among ts.once q) (is_among ts.again q) (if option_map_or (λ n. same n q) name false then 1 + transitions_named q is else transitions_named q is)
    go None = refl
    go (Some n) = one_with n q ts (transitions_named q is)

named_once : (q : List ℕ) (g : GraphItems) → stands_once (note_items g no_names) q ≡ nat_eq (transitions_named q g) 1
named_once q g = once_counted q g no_names

-- ---- one refinement more is looked for

abbrev graphs : List SearchTree → List GraphItems
graphs ss = map (λ (s : SearchTree). s.graph) ss

abbrev in_graph : Refining → Option GraphItems → Bool
in_graph r o = option_map_or (λ g. is_named g r.path r.change) o true

one_more_named : (g : GraphItems) (rs : List Refining) (r : Refining) → are_named g (rs ++ r ∷ []) ≡ (is_named g r.path r.change && are_named g rs)
one_more_named g rs r = list_all-append (λ (x : Refining). is_named g x.path x.change) rs (r ∷ []) ∙ ap (λ b. are_named g rs && b) (and_true (is_named g r.path r.change)) ∙ and_comm (are_named g rs) (is_named g r.path r.change)

succeed_at : (ss : List SearchTree) (k : ℕ) (r : Refining) → all_succeed (sought_at ss k r) ≡ (in_graph r (slice_get (graphs ss) k) && all_succeed ss)
succeed_at [] k r = refl
succeed_at (s ∷ ss) zero r = ap (λ b. b && all_succeed ss) (one_more_named s.graph s.sought r) ∙ and_group (is_named s.graph r.path r.change) (are_named s.graph s.sought) (all_succeed ss)
succeed_at (s ∷ ss) (suc k) r = ap (λ b. are_named s.graph s.sought && b) (succeed_at ss k r) ∙ and_swap (are_named s.graph s.sought) (in_graph r (slice_get (graphs ss) k)) (all_succeed ss)

graphs_at : (ss : List SearchTree) (k : ℕ) (r : Refining) → graphs (sought_at ss k r) ≡ graphs ss
graphs_at [] k r = refl
graphs_at (s ∷ ss) zero r = refl
graphs_at (s ∷ ss) (suc k) r = ap (λ gs. s.graph ∷ gs) (graphs_at ss k r)

names_more : (rs : List Refining) (r : Refining) → names_sought (rs ++ r ∷ []) ≡ names_sought rs + (1 + length r.path)
names_more [] r = omega arith
names_more (x ∷ xs) r = let more : names_sought (xs ++ r ∷ []) ≡ names_sought xs + (1 + length r.path) = names_more xs r in omega (arith, more)

effort_at : (ss : List SearchTree) (k : ℕ) (r : Refining) → effort (sought_at ss k r) ≤ effort ss + (1 + length r.path)
effort_at [] k r = omega arith
effort_at (s ∷ ss) zero r = let more : names_sought (s.sought ++ r ∷ []) ≡ names_sought s.sought + (1 + length r.path) = names_more s.sought r in omega (arith, more)
effort_at (s ∷ ss) (suc k) r = let less : effort (sought_at ss k r) ≤ effort ss + (1 + length r.path) = effort_at ss k r in omega (arith, less)

got_mapped : {A B : Type 0} (f : A → B) (xs : List A) (k : ℕ) → slice_get (map f xs) k ≡ option_map f (slice_get xs k)
got_mapped f [] k = refl
got_mapped f (x ∷ xs) zero = refl
got_mapped f (x ∷ xs) (suc k) = got_mapped f xs k

-- Whether a graph has what is looked for, told by the searches that come of it; `most` is how much these are to do.
abbrev Passes : List SearchTree → ℕ → Bool → Option (List SearchTree) → Type 0
Passes ss most named None = named ≡ false
Passes ss most named (Some more) = ((named && all_succeed ss) ≡ all_succeed more) × (graphs more ≡ graphs ss) × (effort more ≤ most)

in_state : (g : GraphItems) (n : List ℕ) (r : Refining) (ss : List SearchTree) (most : ℕ) (named : Bool) → effort ss + (1 + length r.path) ≤ most → graphs ss ≡ map graph_in (states_in g) → named ≡ option_map_or (λ s. is_named (graph_in s) r.path r.change) (first_state n g) false
    → Passes ss most named (sought_in (position (same n) (map name_of (states_in g))) r ss)
in_state g n r ss most named few same_graphs is = go (position (same n) (map name_of (states_in g))) (stands_at n (states_in g))
  where
    told : (o : Option StateTree) → first_named n (states_in g) ≡ o → named ≡ option_map_or (λ s. is_named (graph_in s) r.path r.change) o false
    told o e = is ∙ ap (λ x. option_map_or (λ s. is_named (graph_in s) r.path r.change) x false) (first_is n g ∙ e)

    go : (o : Option ℕ) → StandsAt n (states_in g) o → Passes ss most named (sought_in o r ss)
    go None none = told None none
    go (Some k) (s, (here, first)) =
        let there : slice_get (graphs ss) k ≡ Some (graph_in s) = ap (λ gs. slice_get gs k) same_graphs ∙ got_mapped graph_in (states_in g) k ∙ ap (option_map graph_in) here in
        (ap (λ b. b && all_succeed ss) (told (Some s) first ∙ sym (ap (in_graph r) there)) ∙ sym (succeed_at ss k r), graphs_at ss k r, omega (arith, few, effort_at ss k r))

one_passed : (g : GraphItems) (path : List (List ℕ)) (change : ChangeTree) (ss : List SearchTree) → graphs ss ≡ map graph_in (states_in g)
    → Passes ss (effort ss + length path) (is_named g path change) (passed (map name_of (states_in g)) (note_items g no_names) path change ss)
one_passed g [] (OfState entry exit sub) ss same_graphs = (refl, refl, omega arith)
one_passed g [] (OfTransition c) ss same_graphs = refl
one_passed g (n ∷ []) (OfTransition c) ss same_graphs = go (stands_once (note_items g no_names) n) refl
  where
    go : (t : Bool) → stands_once (note_items g no_names) n ≡ t → Passes ss (effort ss + 1) (nat_eq (transitions_named n g) 1) (if t then Some ss else None)
    go true e = (ap (λ b. b && all_succeed ss) (sym (named_once n g) ∙ e), refl, omega arith)
    go false e = sym (named_once n g) ∙ e
one_passed g (n ∷ []) (OfState entry exit sub) ss same_graphs = in_state g n (record { path = []; change = OfState entry exit sub }) ss (effort ss + length (n ∷ [])) (is_named g (n ∷ []) (OfState entry exit sub)) (omega arith) same_graphs refl
one_passed g (n ∷ m ∷ others) (OfState entry exit sub) ss same_graphs =
    in_state g n (record { path = m ∷ others; change = OfState entry exit sub }) ss (effort ss + length (n ∷ m ∷ others)) (is_named g (n ∷ m ∷ others) (OfState entry exit sub)) (omega arith) same_graphs refl
one_passed g (n ∷ m ∷ others) (OfTransition c) ss same_graphs = in_state g n (record { path = m ∷ others; change = OfTransition c }) ss (effort ss + length (n ∷ m ∷ others)) (is_named g (n ∷ m ∷ others) (OfTransition c)) (omega arith) same_graphs refl

-- ---- all that is looked for in a graph

abbrev Passed : List SearchTree → ℕ → List Refining → Bool → Option (List SearchTree) → Type 0
Passed ss most rs named None = named ≡ false
Passed ss most rs named (Some more) = ((named && all_succeed ss) ≡ all_succeed more) × (effort more + length rs ≤ most)

passes_all : (g : GraphItems) (rs : List Refining) (ss : List SearchTree) → graphs ss ≡ map graph_in (states_in g)
    → Passed ss (effort ss + names_sought rs) rs (are_named g rs) (all_passed (map name_of (states_in g)) (note_items g no_names) rs ss)
passes_all g [] ss same_graphs = (refl, omega arith)
passes_all g (r ∷ rs) ss same_graphs = first (passed (map name_of (states_in g)) (note_items g no_names) r.path r.change ss) (one_passed g r.path r.change ss same_graphs) (λ more kept. passes_all g rs more (kept ∙ same_graphs))
  where
    rest : (more : List SearchTree) → (is_named g r.path r.change && all_succeed ss) ≡ all_succeed more → effort more ≤ effort ss + length r.path → (o : Option (List SearchTree)) → Passed more (effort more + names_sought rs) rs (are_named g rs) o
        → Passed ss (effort ss + names_sought (r ∷ rs)) (r ∷ rs) (are_named g (r ∷ rs)) o
    rest more all less None none = ap (λ b. is_named g r.path r.change && b) none ∙ and_false (is_named g r.path r.change)
    rest more all less (Some last) (is, few) =
        (and_group (is_named g r.path r.change) (are_named g rs) (all_succeed ss) ∙ and_swap (is_named g r.path r.change) (are_named g rs) (all_succeed ss) ∙ ap (λ b. are_named g rs && b) all ∙ is, omega (arith, less, few))

    first : (o : Option (List SearchTree)) → Passes ss (effort ss + length r.path) (is_named g r.path r.change) o
        → ((more : List SearchTree) → graphs more ≡ graphs ss → Passed more (effort more + names_sought rs) rs (are_named g rs) (all_passed (map name_of (states_in g)) (note_items g no_names) rs more))
        → Passed ss (effort ss + names_sought (r ∷ rs)) (r ∷ rs) (are_named g (r ∷ rs)) (option_and_then (all_passed (map name_of (states_in g)) (note_items g no_names) rs) o)
    first None none again = ap (λ b. b && are_named g rs) none
    first (Some more) (all, kept, less) again = rest more all less (all_passed (map name_of (states_in g)) (note_items g no_names) rs more) (again more kept)

nothing_yet : (ss : List StateTree) → all_succeed (map inside ss) ≡ true
nothing_yet [] = refl
nothing_yet (s ∷ ss) = nothing_yet ss

no_effort : (ss : List StateTree) → effort (map inside ss) ≡ 0
no_effort [] = refl
no_effort (s ∷ ss) = let none : effort (map inside ss) ≡ 0 = no_effort ss in omega (arith, none)

their_graphs : (ss : List StateTree) → graphs (map inside ss) ≡ map graph_in ss
their_graphs [] = refl
their_graphs (s ∷ ss) = ap (λ gs. graph_in s ∷ gs) (their_graphs ss)

abbrev Searched : List Refining → Bool → Option (List SearchTree) → Type 0
Searched rs named None = named ≡ false
Searched rs named (Some more) = (named ≡ all_succeed more) × (effort more + length rs ≤ names_sought rs)

searches_all : (g : GraphItems) (rs : List Refining) → Searched rs (are_named g rs) (searched g rs)
searches_all g rs = go (searched g rs) (passes_all g rs (map inside (states_in g)) (their_graphs (states_in g)))
  where
    go : (o : Option (List SearchTree)) → Passed (map inside (states_in g)) (effort (map inside (states_in g)) + names_sought rs) rs (are_named g rs) o → Searched rs (are_named g rs) o
    go None none = none
    go (Some more) (all, few) =
        (sym (ap (λ b. are_named g rs && b) (nothing_yet (states_in g)) ∙ and_true (are_named g rs)) ∙ all, omega (arith, few, no_effort (states_in g)))

-- ---- a round

effort_both : (ss ts : List SearchTree) → effort (ss ++ ts) ≡ effort ss + effort ts
effort_both [] ts = omega arith
effort_both (s ∷ ss) ts = let both : effort (ss ++ ts) ≡ effort ss + effort ts = effort_both ss ts in omega (arith, both)

both_succeed : (ss ts : List SearchTree) → all_succeed (ss ++ ts) ≡ (all_succeed ss && all_succeed ts)
both_succeed ss ts = list_all-append (λ (s : SearchTree). are_named s.graph s.sought) ss ts

some_is_not_none : (n : ℕ) → nat_eq (suc n) 0 ≡ false
some_is_not_none n = grind (arith, nat_tests)

abbrev Rounds : List SearchTree → List SearchTree → Option (List SearchTree) → Type 0
Rounds ss next None = all_succeed ss ≡ false
Rounds ss next (Some last) = ((all_succeed next && all_succeed ss) ≡ all_succeed last) × ((last ≡ next) ⊎ (effort last < effort next + effort ss))

rounds : (ss next : List SearchTree) → Rounds ss next (next_of ss next)
rounds [] next = (and_true (all_succeed next), inl refl)
rounds (s ∷ ss) next = go s.sought refl (λ more. rounds ss more)
  where
    -- a search in which nothing is looked for
    idle : are_named s.graph s.sought ≡ true → names_sought s.sought ≡ 0 → (o : Option (List SearchTree)) → Rounds ss next o → Rounds (s ∷ ss) next o
    idle all none None lost = ap (λ b. b && all_succeed ss) all ∙ lost
    idle all none (Some last) (is, inl e) = (ap (λ b. all_succeed next && (b && all_succeed ss)) all ∙ is, inl e)
    idle all none (Some last) (is, inr less) = (ap (λ b. all_succeed next && (b && all_succeed ss)) all ∙ is, inr (omega (arith, less, none)))

    busy : (more : List SearchTree) → are_named s.graph s.sought ≡ all_succeed more → effort more < names_sought s.sought → (o : Option (List SearchTree)) → Rounds ss (next ++ more) o → Rounds (s ∷ ss) next o
    busy more all less None lost = ap (λ b. are_named s.graph s.sought && b) lost ∙ and_false (are_named s.graph s.sought)
    busy more all less (Some last) (is, way) =
        (ap (λ b. all_succeed next && (b && all_succeed ss)) all ∙ sym (and_group (all_succeed next) (all_succeed more) (all_succeed ss)) ∙ ap (λ b. b && all_succeed ss) (sym (both_succeed next more)) ∙ is, inr (fewer way))
      where
        fewer : ((last ≡ next ++ more) ⊎ (effort last < effort (next ++ more) + effort ss)) → effort last < effort next + effort (s ∷ ss)
        fewer (inl e) = let is_both : effort last ≡ effort next + effort more = ap effort e ∙ effort_both next more in omega (arith, is_both, less)
        fewer (inr below) = let both : effort (next ++ more) ≡ effort next + effort more = effort_both next more in omega (arith, below, both, less)

    sought_any : (o : Option (List SearchTree)) → Searched s.sought (are_named s.graph s.sought) o → 0 < length s.sought → ((more : List SearchTree) → Rounds ss more (next_of ss more)) → Rounds (s ∷ ss) next (option_and_then (next_of ss) (option_map (λ more. next ++ more) o))
    sought_any None none some again = ap (λ b. b && all_succeed ss) none
    sought_any (Some more) (all, few) some again = busy more all (omega (arith, few, some)) (next_of ss (next ++ more)) (again (next ++ more))

    sought_or : (t : Bool) → nat_eq (length s.sought) 0 ≡ t → Rounds (s ∷ ss) next (option_and_then (next_of ss) (if t then Some next else option_map (λ more. next ++ more) (searched s.graph s.sought))) → Rounds (s ∷ ss) next (next_of (s ∷ ss) next)
    sought_or t e = subst (λ (u : Bool). Rounds (s ∷ ss) next (option_and_then (next_of ss) (if u then Some next else option_map (λ more. next ++ more) (searched s.graph s.sought)))) (sym e)

    go : (rs : List Refining) → s.sought ≡ rs → ((more : List SearchTree) → Rounds ss more (next_of ss more)) → Rounds (s ∷ ss) next (next_of (s ∷ ss) next)
    go [] e again = sought_or true (ap (λ xs. nat_eq (length xs) 0) e) (idle (ap (are_named s.graph) e) (ap names_sought e) (next_of ss next) (again next))
    go (r ∷ rs) e again =
        let long : length s.sought ≡ suc (length rs) = ap length e in
        sought_or false (ap (λ n. nat_eq n 0) long ∙ some_is_not_none (length rs)) (sought_any (searched s.graph s.sought) (searches_all s.graph s.sought) (omega (arith, long)) again)

pub no_more : (ss : List SearchTree) → next_of ss [] ≡ None → all_succeed ss ≡ false
no_more ss e = subst (Rounds ss []) e (rounds ss [])

pub one_more : (ss next : List SearchTree) → next_of ss [] ≡ Some next → all_succeed ss ≡ all_succeed next
one_more ss next e = let P : Option (List SearchTree) → Type 0 = Rounds ss [] in (subst P e (rounds ss [])).0

pub less_left : (ss next : List SearchTree) → next_of ss [] ≡ Some next → (length ss ≡ 0 → ⊥) → toil next < toil ss
less_left [] next e some = absurd (some refl)
less_left (s ∷ ss) next e some = let P : Option (List SearchTree) → Type 0 = Rounds (s ∷ ss) [] in go (subst P e (rounds (s ∷ ss) [])).1
  where
    short : (ts : List SearchTree) → toil ts ≤ 1 + effort ts
    short [] = omega arith
    short (t ∷ ts) = omega arith

    go : ((next ≡ []) ⊎ (effort next < effort [] + effort (s ∷ ss))) → toil next < toil (s ∷ ss)
    go (inl none) = let idle : toil next ≡ 0 = ap toil none in omega (arith, idle)
    go (inr less) = omega (arith, less, short next)

-- ---- what the code finds

abbrev state_now : Bor State → StateTree
state_now s = state_view s.now

pub searched_is : (g : GraphItems) (rs : List Refining) (refs seen again : List (Bor State)) (names : List (List ℕ)) (ts : NamesTree) (ss : List SearchTree) → map state_now refs ≡ states_in g → seen ≡ refs → again ≡ refs → names ≡ map name_of (map state_now seen) → ts ≡ note_items g no_names
    → ss ≡ map inside (map state_now again) → all_passed names ts rs ss ≡ searched g rs
searched_is g rs refs seen again names ts ss are same_refs same_again names_are ts_are ss_are =
    ap (λ ns. all_passed ns ts rs ss) (names_are ∙ ap (λ xs. map name_of (map state_now xs)) same_refs ∙ ap (map name_of) are) ∙ ap (λ t. all_passed (map name_of (states_in g)) t rs ss) ts_are
    ∙ ap (all_passed (map name_of (states_in g)) (note_items g no_names) rs) (ss_are ∙ ap (λ xs. map inside (map state_now xs)) same_again ∙ ap (map inside) are)

pub less_toil : (ss seen : List Search) (found : Option (Vec Search)) (next : Vec Search) → option_map (λ (v : Vec Search). search_views v.items) found ≡ next_of (search_views seen) [] → seen ≡ ss → found ≡ Some next → (length ss ≡ 0 → ⊥) → toil (search_views next.items) < toil (search_views ss)
less_toil ss seen found next told same_seen is some =
    less_left (search_views ss) (search_views next.items) (sym (ap (λ xs. next_of (search_views xs) []) same_seen) ∙ sym told ∙ ap (option_map (λ (v : Vec Search). search_views v.items)) is) (λ none. some (sym (mapped_length search_view ss) ∙ none))
