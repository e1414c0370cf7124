-- The chart that a class's text writes names what the class has.
use Rattle.std.proofs.Common.{◌≡◌, Bool, true, false, cond, List, [], ◌∷◌, ◌++◌, Option, None, refl, sym, subst}
use Rattle.std.specs.List.{AllByRecursion as Each}
use Rattle.std.proofs.lemmas.List.{length-map}
use Rattle.room_ast.specs.declared.chart.Code.{Code}
use Rattle.room_ast.specs.declared.chart.Transition.{Transition as TransitionTree}
use Rattle.room_ast.specs.declared.scope.Scope.{Scope}
use Rattle.room_ast.specs.declared.scope.ScopeAttribute.{ScopeAttribute}
use Rattle.room_ast.specs.ChartTree.{GraphItemTree, AState, AChoice, APoint, ATransition, ARefinement, StateTree, StateOf, BodyTree, no_body, body, SubgraphTree, no_subgraph, subgraph, GraphItems, no_items, item}
use Rattle.room_wiring.specs.declared.names.ClassNames.{ClassNames}
use Rattle.chart_model.specs.Chart.{Name, Path, Transition, State, Graph}
use Rattle.chart_trees.specs.Around.{Around, around, list_of}
use Rattle.chart_trees.specs.Reading.{triggers_in, condition_in, action_in, before_action, transition_of, state_of, Piece, begun, graphs_of, with_actions, with_transition, with_inner, with_item, with_state, with_body, with_subgraph, with_items, piece_of, at_first, chart_of, reading}
use Rattle.chart_trees.specs.chart_codes.Events.{events_fit, trigger_list}
use Rattle.chart_trees.specs.chart_codes.Progress.{Progress, after_action}
use Rattle.law_models.specs.class_laws.Programs.{StateNames, TransitionNames, GraphNames, ChartNames}
use Rattle.law_models.proofs.class_laws.Scopes.{IsScopeOf}
use Rattle.law_models.proofs.class_laws.Named.{numbers_in}
use Rattle.law_models.proofs.class_laws.Codes.{action_named, guard_named, triggers_named}

pub each_both : {X : Type 0} (P : X → Type 0) (xs ys : List X) → Each P xs → Each P ys → Each P (xs ++ ys)
each_both P [] ys h k = k
each_both P (x ∷ xs) ys h k = (h.0, each_both P xs ys h.1 k)

both_true : (b x : Bool) → cond b x false ≡ true → (b ≡ true) × (x ≡ true)
both_true true x h = (refl, h)
both_true false x h = absurd cc

-- each event up to here was the class's
abbrev EventsFit : Progress → Type 0
EventsFit come = come.events_fit ≡ true

module _ (scope : Scope) (c : ClassNames) (fits : IsScopeOf scope c) where
  abbrev StateNamed : State → Type 0
  StateNamed s = StateNames c (numbers_in scope) s

  abbrev TransitionNamed : Transition → Type 0
  TransitionNamed t = TransitionNames c (numbers_in scope) t

  abbrev GraphNamed : Graph → Type 0
  GraphNamed g = GraphNames c (numbers_in scope) g

  record PieceNamed (p : Piece) : Type 0 where
    states : Each StateNamed p.states
    transitions : Each TransitionNamed p.transitions
    inner : Each GraphNamed p.inner

  begun_named : (come : Progress) → PieceNamed (begun come)
  begun_named come = record { states = tt; transitions = tt; inner = tt }

  actions_named : (n : Name) (entry exit : Option Code) (p : Piece) → PieceNamed p → PieceNamed (with_actions scope n entry exit p)
  actions_named n entry exit p h = record {
    states = each_both StateNamed p.states (state_of scope p.come n entry exit ∷ []) h.states
        ((action_named scope c fits p.come.names entry, action_named scope c fits (after_action scope p.come entry).names exit), tt);
    transitions = h.transitions;
    inner = h.inner;
  }

  transition_named : (a : Around) (t : TransitionTree) (p : Piece) → events_fit scope (trigger_list (triggers_in t.body)) ≡ true → PieceNamed p → PieceNamed (with_transition scope a t p)
  transition_named a t p fit h = record {
    states = h.states;
    transitions = each_both TransitionNamed p.transitions (transition_of scope a p.come t ∷ []) h.transitions (
      record {
        triggers_name = triggers_named scope c fits (trigger_list (triggers_in t.body)) fit;
        condition_names = guard_named scope c fits (condition_in t.body);
        action_names = action_named scope c fits (before_action scope p.come t.body).names (action_in t.body);
      },
      tt,
    );
    inner = h.inner;
  }

  inner_named : (owner : Path) (q p : Piece) → PieceNamed q → PieceNamed p → PieceNamed (with_inner owner q p)
  inner_named owner q p g h = record {
    states = h.states;
    transitions = h.transitions;
    inner = each_both GraphNamed p.inner (graphs_of owner q) h.inner ((g.states, g.transitions), g.inner);
  }

  -- Where each event up to the end is the class's, so was each before, and what is read names what the class has.
  Goes : Piece → Piece → Type 0
  Goes p q = EventsFit q.come → EventsFit p.come × (PieceNamed p → PieceNamed q)

  mutual
    unfolding Goes

    item_named : (i : GraphItemTree) (a : Around) (owner : Path) (p : Piece) → Goes p (with_item scope i a owner p)
    item_named (AState s) a owner p fit = state_named s owner p fit
    item_named (AChoice x) a owner p fit = (fit, λ h. record { states = h.states; transitions = h.transitions; inner = h.inner })
    item_named (APoint x) a owner p fit = (fit, λ h. record { states = h.states; transitions = h.transitions; inner = h.inner })
    item_named (ATransition t) a owner p fit =
        let both = both_true (events_fit scope (trigger_list (triggers_in t.body))) p.come.events_fit fit in
        (both.1, λ h. transition_named a t p both.0 h)
    item_named (ARefinement path change) a owner p fit = (fit, λ h. h)

    state_named : (s : StateTree) (owner : Path) (p : Piece) → Goes p (with_state scope s owner p)
    state_named (StateOf n b) owner p fit = body_named b n owner p fit

    body_named : (b : BodyTree) (n : Name) (owner : Path) (p : Piece) → Goes p (with_body scope b n owner p)
    body_named no_body n owner p fit = (fit, λ h. actions_named n None None p h)
    body_named (body entry exit sub) n owner p fit =
        let inside = subgraph_named sub (n ∷ owner) (with_actions scope n entry exit p) fit in
        (inside.0, λ h. inside.1 (actions_named n entry exit p h))

    subgraph_named : (sub : SubgraphTree) (owner : Path) (p : Piece) → Goes p (with_subgraph scope sub owner p)
    subgraph_named no_subgraph owner p fit = (fit, λ h. h)
    subgraph_named (subgraph is) owner p fit =
        let q = with_items scope is (around (list_of is)) owner (begun p.come) in
        let inside = items_named is (around (list_of is)) owner (begun p.come) fit in
        (inside.0, λ h. inner_named owner q p (inside.1 (begun_named p.come)) h)

    items_named : (is : GraphItems) (a : Around) (owner : Path) (p : Piece) → Goes p (with_items scope is a owner p)
    items_named no_items a owner p fit = (fit, λ h. h)
    items_named (item i is) a owner p fit =
        let later = items_named is a owner (with_item scope i a owner p) fit in
        let here = item_named i a owner p later.0 in
        (here.0, λ h. later.1 (here.1 h))

  -- where each event of a text is the class's
  pub chart_named : (names : List Name) (is : GraphItems) → (reading scope names is).events_fit ≡ true → ChartNames c (chart_of scope names is)
  unfolding chart_of reading Goes
  chart_named names is fit =
      let all = (items_named is (around (list_of is)) [] (begun (at_first names)) fit).1 (begun_named (at_first names)) in
      let many = length-map scope.attributes.items (λ (a : ScopeAttribute). a.initial) in
      subst (λ n. Each (GraphNames c n) (graphs_of [] (piece_of scope is [] (at_first names)))) (sym many) ((all.states, all.transitions), all.inner)
