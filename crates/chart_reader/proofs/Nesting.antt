-- A text whose states nest too deep writes a chart whose states do.
use Rattle.std.proofs.Common.{◌≡◌, ◌∙◌, ◌⊎◌, inl, inr, ℕ, zero, suc, ◌+◌, ◌-◌, Bool, true, false, List, [], ◌∷◌, ◌++◌, length, Some, Err, refl, ap, subst, arith}
use Rattle.std.specs.Prelude.{◌&&◌, nat_le, nat_lt}
use Rattle.std.specs.List.{list_all}
use Rattle.std.proofs.lemmas.Bool.Decides.{nat_tests}
use Rattle.room_ast.specs.declared.scope.Scope.{Scope}
use Rattle.room_ast.specs.ChartTree.{GraphItemTree, AState, AChoice, APoint, ATransition, ARefinement, StateTree, StateOf, BodyTree, no_body, body, SubgraphTree, no_subgraph, subgraph, GraphItems, no_items, item}
use Rattle.chart_model.specs.Chart.{Name, Path, State, Graph, Chart}
use Rattle.chart_model.specs.Valid.{is_shallow, is_nothing}
use Rattle.chart_trees.specs.Around.{Around, around, list_of}
use Rattle.chart_trees.specs.Reading.{Piece, begun, graphs_of, with_actions, with_inner, with_item, with_state, with_body, with_subgraph, with_items, piece_of, at_first, chart_of}
use Rattle.chart_reader.specs.chart_rules.Rules.{nests_within}
use Rattle.chart_reader.specs.Depth.{item_nests, state_nests, body_nests, subgraph_nests, graph_nests}
use Rattle.chart_reader.specs.Faults.{names_fault}
use Rattle.chart_reader.specs.Reads.{Reads}
use Rattle.chart_reader.specs.declared.fault.ChartFault.TheVariants as faults
use Rattle.chart_reader.specs.declared.fault.ReadFault.TheVariants as read_faults

and_left : (a b : Bool) → a ≡ false → (a && b) ≡ false
and_left false b h = refl
and_left true b h = absurd cc

and_right : (a b : Bool) → b ≡ false → (a && b) ≡ false
and_right false b h = refl
and_right true b h = h

one_fails : {A : Type 0} (b c : Bool) → (b ≡ false → A) → (c ≡ false → A) → (b && c) ≡ false → A
one_fails false c f g h = f refl
one_fails true c f g h = g h

and_more : (b c d : Bool) → (c ≡ false → d ≡ false) → (b && c) ≡ false → (b && d) ≡ false
and_more false c d f h = refl
and_more true c d f h = f h

some_behind : (xs ys : List Graph) → list_all is_shallow ys ≡ false → list_all is_shallow (xs ++ ys) ≡ false
some_behind [] ys h = h
some_behind (x ∷ xs) ys h = and_right (is_shallow x) (list_all is_shallow (xs ++ ys)) (some_behind xs ys h)

some_before : (xs ys : List Graph) → list_all is_shallow xs ≡ false → list_all is_shallow (xs ++ ys) ≡ false
some_before [] ys h = absurd cc
some_before (x ∷ xs) ys h = and_more (is_shallow x) (list_all is_shallow xs) (list_all is_shallow (xs ++ ys)) (some_before xs ys) h

one_more : (xs : List State) (s : State) → is_nothing (xs ++ s ∷ []) ≡ false
one_more [] s = refl
one_more (x ∷ xs) s = refl

-- what was read of the graph at a path, or of those inside it, nests too deep
HasDeep : Path → Piece → Type 0
HasDeep owner p = ((nat_le (length owner + 1) 16 ≡ false) × (is_nothing p.states ≡ false)) ⊎ (list_all is_shallow p.inner ≡ false)

more_states : (owner : Path) (p q : Piece) (s : State) → q.states ≡ p.states ++ s ∷ [] → q.inner ≡ p.inner → HasDeep owner p → HasDeep owner q
unfolding HasDeep
more_states owner p q s e f (inl h) = inl (h.0, ap is_nothing e ∙ one_more p.states s)
more_states owner p q s e f (inr h) = inr (ap (list_all is_shallow) f ∙ h)

more_inner : (owner inside : Path) (p q : Piece) → HasDeep owner p → HasDeep owner (with_inner inside q p)
unfolding HasDeep
more_inner owner inside p q (inl h) = inl h
more_inner owner inside p q (inr h) = inr (some_before p.inner (graphs_of inside q) h)

-- what nests too deep goes on doing so
subgraph_keeps : (scope : Scope) (sub : SubgraphTree) (inside owner : Path) (p : Piece) → HasDeep owner p → HasDeep owner (with_subgraph scope sub inside p)
subgraph_keeps scope no_subgraph inside owner p h = h
subgraph_keeps scope (subgraph is) inside owner p h = more_inner owner inside p (with_items scope is (around (list_of is)) inside (begun p.come)) h

body_keeps : (scope : Scope) (b : BodyTree) (n : Name) (owner : Path) (p : Piece) → HasDeep owner p → HasDeep owner (with_body scope b n owner p)
body_keeps scope no_body n owner p h = more_states owner p (with_body scope no_body n owner p) _ refl refl h
body_keeps scope (body entry exit sub) n owner p h = subgraph_keeps scope sub (n ∷ owner) owner (with_actions scope n entry exit p) (more_states owner p (with_actions scope n entry exit p) _ refl refl h)

item_keeps : (scope : Scope) (i : GraphItemTree) (a : Around) (owner : Path) (p : Piece) → HasDeep owner p → HasDeep owner (with_item scope i a owner p)
unfolding HasDeep
item_keeps scope (AState (StateOf n b)) a owner p h = body_keeps scope b n owner p h
item_keeps scope (AChoice c) a owner p h = h
item_keeps scope (APoint q) a owner p h = h
item_keeps scope (ATransition t) a owner p h = h
item_keeps scope (ARefinement path change) a owner p h = h

items_keep : (scope : Scope) (is : GraphItems) (a : Around) (owner : Path) (p : Piece) → HasDeep owner p → HasDeep owner (with_items scope is a owner p)
items_keep scope no_items a owner p h = h
items_keep scope (item i is) a owner p h = items_keep scope is a owner (with_item scope i a owner p) (item_keeps scope i a owner p h)

-- a state at the depth at which none may stand
here : (scope : Scope) (b : BodyTree) (n : Name) (owner : Path) (p : Piece) → nat_le (length owner + 1) 16 ≡ false → HasDeep owner (with_body scope b n owner p)
unfolding HasDeep
here scope no_body n owner p h = inl (h, one_more p.states _)
here scope (body entry exit no_subgraph) n owner p h = inl (h, one_more p.states _)
here scope (body entry exit (subgraph is)) n owner p h = inl (h, one_more p.states _)

too_long : (k : ℕ) → k + 0 ≡ 16 → nat_le (k + 1) 16 ≡ false
too_long k h = grind (arith, nat_tests)

whole : (owner : Path) (p : Piece) → HasDeep owner p → list_all is_shallow (graphs_of owner p) ≡ false
unfolding HasDeep
whole owner p (inl h) = and_left _ (list_all is_shallow p.inner) (rw (h.0, h.1) refl)
whole owner p (inr h) = and_right _ (list_all is_shallow p.inner) h

some : (m : ℕ) → nat_lt 0 (suc m) ≡ true
some m = grind (arith, nat_tests)

inside_fails : (b : BodyTree) (m : ℕ) (t : Bool) (k : ℕ) → t ≡ true → k ≡ m → (t && body_nests b k) ≡ false → body_nests b m ≡ false
inside_fails b m true k e f h = subst (λ j. body_nests b j ≡ false) f h
inside_fails b m false k e f h = absurd cc

mutual
  unfolding HasDeep

  item_deep : (i : GraphItemTree) (scope : Scope) (a : Around) (owner : Path) (p : Piece) (most : ℕ) → length owner + most ≡ 16 → item_nests i most ≡ false → HasDeep owner (with_item scope i a owner p)
  item_deep (AState s) scope a owner p most e h = state_deep s scope owner p most e h
  item_deep (AChoice c) scope a owner p most e h = absurd cc
  item_deep (APoint q) scope a owner p most e h = absurd cc
  item_deep (ATransition t) scope a owner p most e h = absurd cc
  item_deep (ARefinement path change) scope a owner p most e h = absurd cc

  state_deep : (s : StateTree) (scope : Scope) (owner : Path) (p : Piece) (most : ℕ) → length owner + most ≡ 16 → state_nests s most ≡ false → HasDeep owner (with_state scope s owner p)
  state_deep (StateOf n b) scope owner p zero e h = here scope b n owner p (too_long (length owner) e)
  state_deep (StateOf n b) scope owner p (suc most) e h = body_deep b scope n owner p most e (inside_fails b most (nat_lt 0 (suc most)) (suc most - 1) (some most) (omega arith) h)

  body_deep : (b : BodyTree) (scope : Scope) (n : Name) (owner : Path) (p : Piece) (most : ℕ) → length owner + suc most ≡ 16 → body_nests b most ≡ false → HasDeep owner (with_body scope b n owner p)
  body_deep no_body scope n owner p most e h = absurd cc
  body_deep (body entry exit sub) scope n owner p most e h = subgraph_deep sub scope (n ∷ owner) owner (with_actions scope n entry exit p) most (omega (arith, e)) h

  subgraph_deep : (sub : SubgraphTree) (scope : Scope) (inside owner : Path) (p : Piece) (most : ℕ) → length inside + most ≡ 16 → subgraph_nests sub most ≡ false → HasDeep owner (with_subgraph scope sub inside p)
  subgraph_deep no_subgraph scope inside owner p most e h = absurd cc
  subgraph_deep (subgraph is) scope inside owner p most e h =
      let q = with_items scope is (around (list_of is)) inside (begun p.come) in
      inr (some_behind p.inner (graphs_of inside q) (whole inside q (items_deep is scope (around (list_of is)) inside (begun p.come) most e h)))

  items_deep : (is : GraphItems) (scope : Scope) (a : Around) (owner : Path) (p : Piece) (most : ℕ) → length owner + most ≡ 16 → graph_nests is most ≡ false → HasDeep owner (with_items scope is a owner p)
  items_deep no_items scope a owner p most e h = absurd cc
  items_deep (item i is) scope a owner p most e h =
      one_fails (item_nests i most) (graph_nests is most) (λ k. items_keep scope is a owner (with_item scope i a owner p) (item_deep i scope a owner p most e k)) (λ k. items_deep is scope a owner (with_item scope i a owner p) most e k) h

deep_fault : (chart : Chart) → nests_within chart ≡ false → names_fault chart ≡ Some faults.DepthAbove16
unfolding names_fault
deep_fault chart e = rw e refl

-- such a text is told by its depth
pub depth_told : (scope : Scope) (names : List (List ℕ)) (is : GraphItems) → graph_nests is 16 ≡ false → Reads scope names is (Err (read_faults.Chart faults.DepthAbove16))
unfolding nests_within chart_of
depth_told scope names is h =
    let q = piece_of scope is [] (at_first names) in
    deep_fault (chart_of scope names is) (whole [] q (items_deep is scope (around (list_of is)) [] (begun (at_first names)) 16 refl h))
