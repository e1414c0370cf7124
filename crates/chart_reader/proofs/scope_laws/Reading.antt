-- Graphs in two scopes that are seen alike.
use Rattle.std.proofs.Common.{◌≡◌, List, [], ◌∷◌, ◌++◌, map, Option, None, refl, sym, ap, ◌∙◌}
use Rattle.room_ast.specs.declared.chart.Code.{Code}
use Rattle.room_ast.specs.declared.chart.Transition.{Transition as TransitionTree}
use Rattle.room_ast.specs.declared.chart.TransitionBody.{TransitionBody}
use Rattle.room_ast.specs.declared.scope.Scope.{Scope}
use Rattle.room_ast.specs.declared.scope.ScopeAttribute.{ScopeAttribute}
use Rattle.room_ast.specs.ChartTree.{GraphItemTree, AState, AChoice, APoint, ATransition, ARefinement, StateTree, StateOf, BodyTree, no_body, body, SubgraphTree, no_subgraph, subgraph, GraphItems, no_items, item}
use Rattle.action_program.specs.Numbered as numbered
use Rattle.chart_model.specs.chart_plan.Plan.{Trigger}
use Rattle.chart_model.specs.Chart.{Name, Path, Event, Source, Target, Transition, State}
use Rattle.chart_trees.specs.chart_codes.Codes.{action_of}
use Rattle.chart_trees.specs.chart_codes.Events.{trigger_list}
use Rattle.chart_trees.specs.chart_codes.Progress.{Progress, after_action, after_guard, after_triggers}
use Rattle.chart_trees.specs.Around.{Around, around, list_of}
use Rattle.chart_trees.specs.Reading.{triggers_in, condition_in, action_in, before_action, after_transition, transition_of, Piece, begun, graphs_of, state_of, with_actions, with_transition, with_inner, with_item, with_state, with_body, with_subgraph, with_items, piece_of, at_first, reading, chart_of}
use Rattle.room_ast.specs.model_parts.Attributes.{ClassNumber}
use Rattle.check_scopes.specs.class_scopes.Views.{ScopeView, attribute_view, scope_view}
use Rattle.chart_reader.proofs.scope_laws.Codes.{guard_same, action_same, triggers_same, after_action_same, after_guard_same, after_triggers_same}
use Rattle.chart_reader.specs.scope_laws.Alike.{WriteTheSame}

-- what is mapped twice
initials : (ks : List ScopeAttribute) → map (λ (c : ClassNumber). c.initial) (map attribute_view ks) ≡ map (λ (a : ScopeAttribute). a.initial) ks
initials [] = refl
initials (a ∷ ks) = ap (λ zs. a.initial ∷ zs) (initials ks)

module _ (s t : Scope) (e : scope_view s ≡ scope_view t) where
  -- ---- transitions

  before_same : (come : Progress) (b : Option TransitionBody) → before_action s come b ≡ before_action t come b
  before_same come b =
      ap (λ p. after_guard s p (condition_in b)) (after_triggers_same s t e come (trigger_list (triggers_in b)))
      ∙ after_guard_same s t e (after_triggers t come (trigger_list (triggers_in b))) (condition_in b)

  after_same : (come : Progress) (b : Option TransitionBody) → after_transition s come b ≡ after_transition t come b
  after_same come b = ap (λ p. after_action s p (action_in b)) (before_same come b) ∙ after_action_same s t e (before_action t come b) (action_in b)

  transition_made : {source : Source} {target : Target} {a b : List (Trigger Event numbered.ExprTree)} {c d : Option numbered.ExprTree} {f g : numbered.Stmts} → a ≡ b → c ≡ d → f ≡ g
      → ◌≡◌ {A = Transition} (record { source = source; target = target; triggers = a; condition = c; action = f }) (record { source = source; target = target; triggers = b; condition = d; action = g })
  transition_made {source} {target} {a} {b} {c} {d} {f} {g} p q r =
      ap (λ x. record { source = source; target = target; triggers = x; condition = c; action = f }) p
      ∙ ap (λ x. record { source = source; target = target; triggers = b; condition = x; action = f }) q
      ∙ ap (λ x. record { source = source; target = target; triggers = b; condition = d; action = x }) r

  transition_same : (a : Around) (come : Progress) (x : TransitionTree) → transition_of s a come x ≡ transition_of t a come x
  transition_same a come x =
      transition_made (triggers_same s t e (triggers_in x.body)) (guard_same s t e (condition_in x.body))
      (ap (λ (p : Progress). action_of s p.names (action_in x.body)) (before_same come x.body) ∙ action_same s t e (before_action t come x.body).names (action_in x.body))

  -- ---- graphs

  state_made : {n : Name} {a b c d : numbered.Stmts} → a ≡ b → c ≡ d → ◌≡◌ {A = State} (record { name = n; entry = a; exit = c }) (record { name = n; entry = b; exit = d })
  state_made {n} {a} {b} {c} {d} p q = ap (λ x. record { name = n; entry = x; exit = c }) p ∙ ap (λ y. record { name = n; entry = b; exit = y }) q

  state_same : (come : Progress) (n : Name) (entry exit : Option Code) → state_of s come n entry exit ≡ state_of t come n entry exit
  state_same come n entry exit =
      state_made (action_same s t e come.names entry)
      (ap (λ (p : Progress). action_of s p.names exit) (after_action_same s t e come entry) ∙ action_same s t e (after_action t come entry).names exit)

  actions_same : (n : Name) (entry exit : Option Code) (p : Piece) → with_actions s n entry exit p ≡ with_actions t n entry exit p
  actions_same n entry exit p =
      ap (λ x. record p { states = p.states ++ x ∷ []; come = after_action s (after_action s p.come entry) exit }) (state_same p.come n entry exit)
      ∙ ap (λ x. record p { states = p.states ++ state_of t p.come n entry exit ∷ []; come = x }) (ap (λ q. after_action s q exit) (after_action_same s t e p.come entry) ∙ after_action_same s t e (after_action t p.come entry) exit)

  with_transition_same : (a : Around) (x : TransitionTree) (p : Piece) → with_transition s a x p ≡ with_transition t a x p
  with_transition_same a x p =
      ap (λ y. record p { transitions = p.transitions ++ y ∷ []; come = after_transition s p.come x.body }) (transition_same a p.come x)
      ∙ ap (λ y. record p { transitions = p.transitions ++ transition_of t a p.come x ∷ []; come = y }) (after_same p.come x.body)

  mutual
    item_same : (i : GraphItemTree) (a : Around) (owner : Path) (p : Piece) → with_item s i a owner p ≡ with_item t i a owner p
    item_same (AState x) a owner p = with_state_same x owner p
    item_same (AChoice c) a owner p = refl
    item_same (APoint q) a owner p = refl
    item_same (ATransition x) a owner p = with_transition_same a x p
    item_same (ARefinement path change) a owner p = refl

    with_state_same : (x : StateTree) (owner : Path) (p : Piece) → with_state s x owner p ≡ with_state t x owner p
    with_state_same (StateOf n b) owner p = body_same b n owner p

    body_same : (b : BodyTree) (n : Name) (owner : Path) (p : Piece) → with_body s b n owner p ≡ with_body t b n owner p
    body_same no_body n owner p = actions_same n None None p
    body_same (body entry exit sub) n owner p =
        subgraph_same sub (n ∷ owner) (with_actions s n entry exit p) ∙ ap (with_subgraph t sub (n ∷ owner)) (actions_same n entry exit p)

    subgraph_same : (sub : SubgraphTree) (owner : Path) (p : Piece) → with_subgraph s sub owner p ≡ with_subgraph t sub owner p
    subgraph_same no_subgraph owner p = refl
    subgraph_same (subgraph is) owner p = ap (λ q. with_inner owner q p) (items_same is (around (list_of is)) owner (begun p.come))

    items_same : (is : GraphItems) (a : Around) (owner : Path) (p : Piece) → with_items s is a owner p ≡ with_items t is a owner p
    items_same no_items a owner p = refl
    items_same (item i is) a owner p = items_same is a owner (with_item s i a owner p) ∙ ap (with_items t is a owner) (item_same i a owner p)

  piece_same : (is : GraphItems) (owner : Path) (come : Progress) → piece_of s is owner come ≡ piece_of t is owner come
  piece_same is owner come = items_same is (around (list_of is)) owner (begun come)

  -- ---- charts

  values_same : map (λ (a : ScopeAttribute). a.initial) s.attributes.items ≡ map (λ (a : ScopeAttribute). a.initial) t.attributes.items
  values_same =
      sym (initials s.attributes.items)
      ∙ ap (λ (w : ScopeView). map (λ (c : ClassNumber). c.initial) w.attributes) e
      ∙ initials t.attributes.items

  chart_same : (names : List Name) (is : GraphItems) → chart_of s names is ≡ chart_of t names is
  unfolding chart_of
  chart_same names is =
      ap (λ p. record { graphs = graphs_of [] p; values = map (λ (a : ScopeAttribute). a.initial) s.attributes.items }) (piece_same is [] (at_first names))
      ∙ ap (λ v. record { graphs = graphs_of [] (piece_of t is [] (at_first names)); values = v }) values_same

  reading_same : (names : List Name) (is : GraphItems) → reading s names is ≡ reading t names is
  unfolding reading
  reading_same names is = ap (λ (p : Piece). p.come) (piece_same is [] (at_first names))

pub same_written : (s t : Scope) (names : List Name) (is : GraphItems) → WriteTheSame s t names is
same_written s t names is e = (chart_same s t e names is, reading_same s t e names is)
