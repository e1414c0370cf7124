-- The graphs of a chart that is read are those of its states.
use Rattle.std.proofs.Common.{◌≡◌, ◌≤◌, ◌⊎◌, inl, inr, Bool, true, false, cond, List, [], ◌∷◌, ◌++◌, length, map, refl, sym, ap, ◌∙◌, subst, arith, Option, Some, None, append_assoc}
use Rattle.std.specs.Prelude.{◌||◌}
use Rattle.std.specs.List.{AllByRecursion, IsDistinct, list_any}
use Rattle.std.proofs.lemmas.List.{length-append, map-append}
use Rattle.std.proofs.lemmas.List.Elements.{All-contains}
use Rattle.std.proofs.lemmas.List.Folds.{list_any-append}
use lib.Pointwise.{bytes_decides}
use Rattle.room_ast.specs.declared.chart.Code.{Code}
use Rattle.room_ast.specs.declared.scope.Scope.{Scope}
use Rattle.room_ast.specs.ChartTree.{GraphItemTree, AState, AChoice, APoint, ATransition, ARefinement, StateTree, StateOf, BodyTree, no_body, body, SubgraphTree, no_subgraph, subgraph, GraphItems, no_items, item}
use Rattle.chart_model.specs.Chart.{Name, Path, State, Point, Graph}
use Rattle.chart_model.specs.Named.{first, same_name, same_path}
use Rattle.chart_model.specs.Valid.{HasRightNames, IsValid, has_state, names_in}
use Rattle.chart_trees.specs.Around.{Around, around, list_of}
use Rattle.chart_trees.specs.Reading.{Piece, begun, state_of, with_actions, with_item, with_state, with_body, with_subgraph, with_items, piece_of, at_first, chart_of}
use Rattle.room_ast.specs.model_parts.Charts.{states_in}
use Rattle.chart_reader.specs.Whole.{IsWhole}
use Rattle.chart_reader.proofs.StateCounts.{states_counted}
use Rattle.chart_reader.proofs.chart_nodes.GraphKeys.{first_passes}
use Rattle.chart_reader.proofs.chart_nodes.Members.{In, Contains-from_In}
use Rattle.chart_reader.proofs.chart_nodes.Onward.{path_is, path_own}

-- the graphs of the states of a graph at a path: behind those of the states before it the graph of a state, and then those of its own states
data Inner : Path → List State → List Graph → Type 0 where
  nothing : (owner : Path) → Inner owner [] []
  plain : (owner : Path) (ss : List State) (gs : List Graph) (s : State) → Inner owner ss gs → Inner owner (ss ++ s ∷ []) gs
  nested : (owner : Path) (ss : List State) (gs hs : List Graph) (s : State) (g : Graph) → Inner owner ss gs → g.owner ≡ s.name ∷ owner → Inner (s.name ∷ owner) g.states hs → Inner owner (ss ++ s ∷ []) (gs ++ g ∷ hs)

-- ---- what is read has such graphs

abbrev IsInner : Path → Piece → Type 0
IsInner owner p = Inner owner p.states p.inner

mutual
  item_inner : (i : GraphItemTree) (scope : Scope) (a : Around) (owner : Path) (p : Piece) → IsInner owner p → IsInner owner (with_item scope i a owner p)
  item_inner (AState s) scope a owner p h = state_inner s scope owner p h
  item_inner (AChoice c) scope a owner p h = h
  item_inner (APoint q) scope a owner p h = h
  item_inner (ATransition t) scope a owner p h = h
  item_inner (ARefinement path change) scope a owner p h = h

  state_inner : (s : StateTree) (scope : Scope) (owner : Path) (p : Piece) → IsInner owner p → IsInner owner (with_state scope s owner p)
  state_inner (StateOf n b) scope owner p h = body_inner b scope n owner p h

  body_inner : (b : BodyTree) (scope : Scope) (n : Name) (owner : Path) (p : Piece) → IsInner owner p → IsInner owner (with_body scope b n owner p)
  body_inner no_body scope n owner p h = plain owner p.states p.inner (state_of scope p.come n None None) h
  body_inner (body entry exit sub) scope n owner p h = subgraph_inner sub scope n entry exit owner p h

  subgraph_inner : (sub : SubgraphTree) (scope : Scope) (n : Name) (entry exit : Option Code) (owner : Path) (p : Piece) → IsInner owner p → IsInner owner (with_subgraph scope sub (n ∷ owner) (with_actions scope n entry exit p))
  subgraph_inner no_subgraph scope n entry exit owner p h = plain owner p.states p.inner (state_of scope p.come n entry exit) h
  subgraph_inner (subgraph is) scope n entry exit owner p h =
      let come = (with_actions scope n entry exit p).come in
      let q = with_items scope is (around (list_of is)) (n ∷ owner) (begun come) in
      nested owner p.states p.inner q.inner (state_of scope p.come n entry exit) (record { owner = n ∷ owner; states = q.states; points = q.points; choices = q.choices; transitions = q.transitions }) h refl
      (items_inner is scope (around (list_of is)) (n ∷ owner) (begun come) (nothing (n ∷ owner)))

  items_inner : (is : GraphItems) (scope : Scope) (a : Around) (owner : Path) (p : Piece) → IsInner owner p → IsInner owner (with_items scope is a owner p)
  items_inner no_items scope a owner p h = h
  items_inner (item i is) scope a owner p h = items_inner is scope a owner (with_item scope i a owner p) (item_inner i scope a owner p h)

-- ---- lists

pub In_append : {A : Type 0} (xs ys : List A) (z : A) → In (xs ++ ys) z → In xs z ⊎ In ys z
In_append [] ys z h = inr h
In_append (x ∷ xs) ys z (inl e) = inl (inl e)
In_append (x ∷ xs) ys z (inr h) = elim (In_append xs ys z h) [ inl i ↦ inl (inr i) | inr i ↦ inr i ]

pub In_left : {A : Type 0} (xs ys : List A) (z : A) → In xs z → In (xs ++ ys) z
In_left [] ys z h = absurd h
In_left (x ∷ xs) ys z (inl e) = inl e
In_left (x ∷ xs) ys z (inr i) = inr (In_left xs ys z i)

pub In_right : {A : Type 0} (xs ys : List A) (z : A) → In ys z → In (xs ++ ys) z
In_right [] ys z h = h
In_right (x ∷ xs) ys z h = inr (In_right xs ys z h)

pub In-first : {A : Type 0} (p : A → Bool) (xs : List A) (x : A) → first p xs ≡ Some x → In xs x
In-first p [] x e = absurd cc
In-first p (y ∷ xs) x e = split p y xs x (p y) (In-first p xs x) e
  where
    split : {A : Type 0} (p : A → Bool) (y : A) (xs : List A) (x : A) (b : Bool) → (first p xs ≡ Some x → In xs x) → cond b (Some y) (first p xs) ≡ Some x → In (y ∷ xs) x
    split p y xs x true again e = inl (let s : y ≡ x = cc in s)
    split p y xs x false again e = inr (again e)

-- the first that passes a test in the first of two lists, or else in the second
first_before : {A : Type 0} (p : A → Bool) (xs ys : List A) (x : A) → first p xs ≡ Some x → first p (xs ++ ys) ≡ Some x
first_before p [] ys x e = absurd cc
first_before p (y ∷ xs) ys x e = split p y xs ys x (p y) (first_before p xs ys x) e
  where
    split : {A : Type 0} (p : A → Bool) (y : A) (xs ys : List A) (x : A) (b : Bool) → (first p xs ≡ Some x → first p (xs ++ ys) ≡ Some x) → cond b (Some y) (first p xs) ≡ Some x → cond b (Some y) (first p (xs ++ ys)) ≡ Some x
    split p y xs ys x true again e = e
    split p y xs ys x false again e = again e

first_behind : {A : Type 0} (p : A → Bool) (xs ys : List A) → first p xs ≡ None → first p (xs ++ ys) ≡ first p ys
first_behind p [] ys e = refl
first_behind p (y ∷ xs) ys e = split p y xs ys (p y) (first_behind p xs ys) e
  where
    split : {A : Type 0} (p : A → Bool) (y : A) (xs ys : List A) (b : Bool) → (first p xs ≡ None → first p (xs ++ ys) ≡ first p ys) → cond b (Some y) (first p xs) ≡ None → cond b (Some y) (first p (xs ++ ys)) ≡ first p ys
    split p y xs ys true again e = absurd cc
    split p y xs ys false again e = again e

or_first : (a b : Bool) → a ≡ true → (a || b) ≡ true
or_first true b e = refl
or_first false b e = absurd cc

or_second : (a b : Bool) → b ≡ true → (a || b) ≡ true
or_second true b e = refl
or_second false b e = e

-- ---- names of states

abbrev has : List State → Name → Bool
has ss n = list_any (λ (d : State). same_name d.name n) ss

abbrev names_of : List State → List Name
names_of ss = map (λ (s : State). s.name) ss

has_before : (ss : List State) (s : State) (n : Name) → has ss n ≡ true → has (ss ++ s ∷ []) n ≡ true
has_before ss s n e = list_any-append (λ (d : State). same_name d.name n) ss (s ∷ []) ∙ or_first (has ss n) (has (s ∷ []) n) e

has_last : (ss : List State) (s : State) → has (ss ++ s ∷ []) s.name ≡ true
has_last ss s =
    list_any-append (λ (d : State). same_name d.name s.name) ss (s ∷ []) ∙ or_second (has ss s.name) (has (s ∷ []) s.name) (or_first (same_name s.name s.name) false ((bytes_decides s.name s.name).1 refl))

pub of_all : (x : Name) (xs : List Name) (y : Name) → AllByRecursion (λ z. same_name x z ≡ false) xs → In xs y → same_name x y ≡ false
of_all x [] y h i = absurd i
of_all x (z ∷ xs) y h (inl e) = subst (λ w. same_name x w ≡ false) e h.0
of_all x (z ∷ xs) y h (inr i) = of_all x xs y h.1 i

In-last : (ss : List State) (s : State) (rest : List Name) → In (names_of (ss ++ s ∷ []) ++ rest) s.name
In-last [] s rest = inl refl
In-last (x ∷ ss) s rest = inr (In-last ss s rest)

-- a name that is new among these
distinct_last : (ss : List State) (s : State) (rest : List Name) → IsDistinct same_name (names_of (ss ++ s ∷ []) ++ rest) → has ss s.name ≡ false
unfolding IsDistinct
distinct_last [] s rest d = refl
distinct_last (x ∷ ss) s rest d = rw (of_all x.name (names_of (ss ++ s ∷ []) ++ rest) s.name d.0 (In-last ss s rest)) (distinct_last ss s rest d.1)

distinct_front : (ss : List State) (s : State) (rest : List Name) → IsDistinct same_name (names_of (ss ++ s ∷ []) ++ rest) → IsDistinct same_name (names_of ss ++ s.name ∷ rest)
distinct_front ss s rest d = subst (IsDistinct same_name) (ap (λ l. l ++ rest) (map-append (λ (s : State). s.name) ss (s ∷ [])) ∙ append_assoc (names_of ss) (s.name ∷ []) rest) d

-- ---- paths under a graph

abbrev stands_at : Path → Graph → Bool
stands_at path g = same_path g.owner path

-- a path is one of the state with a name in the graph at owner, or of one inside it
abbrev Under : Path → Name → Path → Type 0
Under owner n path = (inside : Path) × (path ≡ inside ++ n ∷ owner)

pub under_deep : (owner : Path) (n m : Name) (path : Path) → Under (n ∷ owner) m path → Under owner n path
under_deep owner n m path (inside, e) = (inside ++ m ∷ [], e ∙ sym (append_assoc inside (m ∷ []) (n ∷ owner)))

under_same : (owner inside outside : Path) (m n : Name) → inside ++ m ∷ owner ≡ outside ++ n ∷ owner → m ≡ n
under_same owner [] [] m n e = cc
under_same owner [] (x ∷ xs) m n e = absurd (omega (arith, ap length e, length-append xs (n ∷ owner)))
under_same owner (x ∷ xs) [] m n e = absurd (omega (arith, ap length e, length-append xs (m ∷ owner)))
under_same owner (x ∷ xs) (y ∷ ys) m n e = under_same owner xs ys m n (let s : xs ++ m ∷ owner ≡ ys ++ n ∷ owner = cc in s)

pub not_longer : (owner inside : Path) (m n : Name) → n ∷ owner ≡ inside ++ m ∷ n ∷ owner → ⊥
not_longer owner inside m n e = omega (arith, ap length e, length-append inside (m ∷ n ∷ owner))

ends : (owner : Path) (ss : List State) (gs : List Graph) → Inner owner ss gs → (g : Graph) → In gs g → (n : Name) × (has ss n ≡ true) × Under owner n g.owner
ends _ _ _ (nothing owner) g i = absurd i
ends _ _ _ (plain owner ss gs s h) g i = let r = ends owner ss gs h g i in (r.0, has_before ss s r.0 r.1, r.2)
ends _ _ _ (nested owner ss gs hs s g' h is k) g i =
    elim (In_append gs (g' ∷ hs) g i) [
      | inl j ↦ (let r = ends owner ss gs h g j in (r.0, has_before ss s r.0 r.1, r.2))
      | inr j ↦ elim j [
        | inl e ↦ (s.name, has_last ss s, ([], ap (λ (x : Graph). x.owner) (sym e) ∙ is))
        | inr j ↦ (let r = ends (s.name ∷ owner) g'.states hs k g j in (s.name, has_last ss s, under_deep owner s.name r.0 g.owner r.2))
      ]
    ]

-- no graph stands at or inside a state with a new name
missing : (owner : Path) (ss : List State) (gs : List Graph) → Inner owner ss gs → (n : Name) (inside : Path) → has ss n ≡ false → first (stands_at (inside ++ n ∷ owner)) gs ≡ None
missing owner ss gs h n inside fresh = split (first (stands_at (inside ++ n ∷ owner)) gs) refl
  where
    split : (o : Option Graph) → first (stands_at (inside ++ n ∷ owner)) gs ≡ o → first (stands_at (inside ++ n ∷ owner)) gs ≡ None
    split None e = e
    split (Some g) e =
        let r = ends owner ss gs h g (In-first (stands_at (inside ++ n ∷ owner)) gs g e) in
        let is : g.owner ≡ inside ++ n ∷ owner = path_is g.owner (inside ++ n ∷ owner) (first_passes (stands_at (inside ++ n ∷ owner)) gs g e) in
        let one : r.0 ≡ n = under_same owner r.2.0 inside r.0 n (sym r.2.1 ∙ is) in
        let there : has ss n ≡ true = subst (λ m. has ss m ≡ true) one r.1 in
        absurd cc

-- ---- the graph outside a graph

-- a state with the name is one of the outermost graph, which is at owner, or of the graph at the path
abbrev IsBelow : Path → List State → List Graph → Name → Path → Type 0
IsBelow owner ss gs n path = ((path ≡ owner) × (has ss n ≡ true)) ⊎ ((g : Graph) × (first (stands_at path) gs ≡ Some g) × (has_state g n ≡ true))

below_plain : (owner : Path) (ss : List State) (gs : List Graph) (s : State) (n : Name) (path : Path) → IsBelow owner ss gs n path → IsBelow owner (ss ++ s ∷ []) gs n path
below_plain owner ss gs s n path (inl h) = inl (h.0, has_before ss s n h.1)
below_plain owner ss gs s n path (inr h) = inr h

below_more : (owner : Path) (ss : List State) (gs more : List Graph) (s : State) (n : Name) (path : Path) → IsBelow owner ss gs n path → IsBelow owner (ss ++ s ∷ []) (gs ++ more) n path
below_more owner ss gs more s n path (inl h) = inl (h.0, has_before ss s n h.1)
below_more owner ss gs more s n path (inr h) = inr (h.0, first_before (stands_at path) gs more h.0 h.1, h.2)

module _ (owner : Path) (ss : List State) (gs hs : List Graph) (s : State) (g : Graph) (h : Inner owner ss gs) (is : g.owner ≡ s.name ∷ owner) (k : Inner (s.name ∷ owner) g.states hs) (fresh : has ss s.name ≡ false) where
  elsewhere : (path : Path) (b : Bool) → same_path g.owner path ≡ b → (g.owner ≡ path → ⊥) → same_path g.owner path ≡ false
  elsewhere path false e apart = e
  elsewhere path true e apart = absurd (apart (path_is g.owner path e))

  -- a graph inside that of the last state
  below_last : (n : Name) (path : Path) → IsBelow (s.name ∷ owner) g.states hs n path → IsBelow owner (ss ++ s ∷ []) (gs ++ g ∷ hs) n path
  below_last n path (inl p) =
      let none : first (stands_at path) gs ≡ None = subst (λ q. first (stands_at q) gs ≡ None) (sym p.0) (missing owner ss gs h s.name [] fresh) in
      let own : same_path g.owner path ≡ true = subst (λ q. same_path g.owner q ≡ true) (is ∙ sym p.0) (path_own g.owner) in
      inr (g, first_behind (stands_at path) gs (g ∷ hs) none ∙ ap (λ b. cond b (Some g) (first (stands_at path) hs)) own, p.1)
  below_last n path (inr (x, found, t)) =
      let r = ends (s.name ∷ owner) g.states hs k x (In-first (stands_at path) hs x found) in
      let under : path ≡ r.2.0 ++ r.0 ∷ s.name ∷ owner = sym (path_is x.owner path (first_passes (stands_at path) hs x found)) ∙ r.2.1 in
      let deep = under_deep owner s.name r.0 path (r.2.0, under) in
      let none : first (stands_at path) gs ≡ None = subst (λ q. first (stands_at q) gs ≡ None) (sym deep.1) (missing owner ss gs h s.name deep.0 fresh) in
      let other : same_path g.owner path ≡ false = elsewhere path (same_path g.owner path) refl (λ e. not_longer owner r.2.0 r.0 s.name (sym is ∙ e ∙ under)) in
      inr (x, first_behind (stands_at path) gs (g ∷ hs) none ∙ ap (λ b. cond b (Some g) (first (stands_at path) hs)) other ∙ found, t)

  -- the graph of the last state itself
  here : (n : Name) (path : Path) → g.owner ≡ n ∷ path → IsBelow owner (ss ++ s ∷ []) (gs ++ g ∷ hs) n path
  here n path e =
      let same : s.name ∷ owner ≡ n ∷ path = sym is ∙ e in
      let p : path ≡ owner = cc in
      let m : s.name ≡ n = cc in
      inl (p, subst (λ x. has (ss ++ s ∷ []) x ≡ true) m (has_last ss s))

  module _ (n : Name) (path : Path) (y : Graph) (before : (x : Graph) → first (stands_at (n ∷ path)) gs ≡ Some x → IsBelow owner ss gs n path) (inside : first (stands_at (n ∷ path)) hs ≡ Some y → IsBelow (s.name ∷ owner) g.states hs n path) where
    behind : (b : Bool) → same_path g.owner (n ∷ path) ≡ b → cond b (Some g) (first (stands_at (n ∷ path)) hs) ≡ Some y → IsBelow owner (ss ++ s ∷ []) (gs ++ g ∷ hs) n path
    behind true t found = here n path (path_is g.owner (n ∷ path) t)
    behind false t found = below_last n path (inside found)

    anywhere : (o : Option Graph) → first (stands_at (n ∷ path)) gs ≡ o → first (stands_at (n ∷ path)) (gs ++ g ∷ hs) ≡ Some y → IsBelow owner (ss ++ s ∷ []) (gs ++ g ∷ hs) n path
    anywhere (Some x) found e = below_more owner ss gs (g ∷ hs) s n path (before x found)
    anywhere None none e = behind (same_path g.owner (n ∷ path)) refl (sym (first_behind (stands_at (n ∷ path)) gs (g ∷ hs) none) ∙ e)

-- each of these graphs is that of a state
below : (owner : Path) (ss : List State) (gs : List Graph) → Inner owner ss gs → (rest : List Name) → IsDistinct same_name (names_of ss ++ rest) → ((g : Graph) → In gs g → IsDistinct same_name (names_in g)) → (n : Name) (path : Path) (g : Graph) → first (stands_at (n ∷ path)) gs ≡ Some g → IsBelow owner ss gs n path
below _ _ _ (nothing owner) rest d f n path g e = absurd cc
below _ _ _ (plain owner ss gs s h) rest d f n path g e = below_plain owner ss gs s n path (below owner ss gs h (s.name ∷ rest) (distinct_front ss s rest d) f n path g e)
below _ _ _ (nested owner ss gs hs s g' h is k) rest d f n path g e =
    anywhere owner ss gs hs s g' h is k (distinct_last ss s rest d) n path g
    (λ x found. below owner ss gs h (s.name ∷ rest) (distinct_front ss s rest d) (λ y i. f y (In_left gs (g' ∷ hs) y i)) n path x found)
    (λ found. below (s.name ∷ owner) g'.states hs k (map (λ (p : Point). p.name) g'.points) (f g' (In_right gs (g' ∷ hs) g' (inl refl))) (λ x i. f x (In_right gs (g' ∷ hs) x (inr i))) n path g found)
    (first (stands_at (n ∷ path)) gs) refl e

-- ---- whole charts

-- the graph outside is the top one or one of these
outside : (top : Graph) (gs : List Graph) → top.owner ≡ [] → Inner [] top.states gs → (n : Name) (path : Path) → IsBelow [] top.states gs n path → (g : Graph) × (first (stands_at path) (top ∷ gs) ≡ Some g) × (has_state g n ≡ true)
outside top gs root h n path (inl p) =
    let own : same_path top.owner path ≡ true = subst (λ q. same_path top.owner q ≡ true) (root ∙ sym p.0) (path_own top.owner) in
    (top, ap (λ b. cond b (Some top) (first (stands_at path) gs)) own, p.1)
outside top gs root h n path (inr (x, found, t)) =
    let r = ends [] top.states gs h x (In-first (stands_at path) gs x found) in
    let long : path ≡ r.2.0 ++ r.0 ∷ [] = sym (path_is x.owner path (first_passes (stands_at path) gs x found)) ∙ r.2.1 in
    (x, ap (λ b. cond b (Some top) (first (stands_at path) gs)) (other (same_path top.owner path) refl r.2.0 r.0 long) ∙ found, t)
  where
    other : (b : Bool) → same_path top.owner path ≡ b → (inside : Path) (m : Name) → path ≡ inside ++ m ∷ [] → same_path top.owner path ≡ false
    other false e inside m long = e
    other true e inside m long = absurd (omega (arith, ap length (sym root ∙ path_is top.owner path e ∙ long), length-append inside (m ∷ [])))

pub whole_told : (scope : Scope) (names : List Name) (is : GraphItems) → IsValid (chart_of scope names is) → states_in is ≤ 60000 → IsWhole (chart_of scope names is)
unfolding chart_of
whole_told scope names is valid_ rule = record {
  valid = valid_;
  few = omega (arith, rule, states_counted scope names is);
  graphs = λ s owner g e. outside top p.inner refl inner s owner (below [] top.states p.inner inner (map (λ (q : Point). q.name) top.points) (distinct top (inl refl)) (λ x i. distinct x (inr i)) s owner g e);
}
  where
    p : Piece
    p = piece_of scope is [] (at_first names)

    top : Graph
    top = record { owner = []; states = p.states; points = p.points; choices = p.choices; transitions = p.transitions }

    inner : Inner [] p.states p.inner
    inner = items_inner is scope (around (list_of is)) [] (begun (at_first names)) (nothing [])

    distinct : (g : Graph) → In (chart_of scope names is).graphs g → IsDistinct same_name (names_in g)
    distinct g i = (All-contains (HasRightNames (chart_of scope names is)) (chart_of scope names is).graphs g valid_.names (Contains-from_In (chart_of scope names is).graphs g i)).distinct
