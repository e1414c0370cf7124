-- A graph without refinements stays as it is.
use Rattle.std.proofs.Common.{◌≡◌, ℕ, Bool, true, false, List, [], ◌∷◌, length, Option, Some, None, refl, sym, ap, ◌∙◌, arith}
use Rattle.std.specs.Prelude.{if◌then◌else◌}
use Rattle.name_tables.specs.name_numbers.Names.{is_among}
use Rattle.room_ast.specs.ChartTree.{GraphItemTree, AState, AChoice, APoint, ATransition, ARefinement, StateTree, StateOf, BodyTree, no_body, body, SubgraphTree, no_subgraph, subgraph, GraphItems, no_items, item, BodyParts, ChangeTree, state_view, change_step, item_step, refinement_step, state_step, body_step}
use Rattle.room_ast.specs.declared.chart.State.{State, out-State}
use Rattle.room_ast.specs.declared.chart.Change.TheFolds.{fold_out-State}
use Rattle.room_ast.specs.declared.chart.Transition.{Transition}
use Rattle.room_ast.specs.declared.chart.TransitionBody.{TransitionBody}
use Rattle.derived_classes.specs.Refining.{Refining, meant_for, with_state, refined, refined_items, refined_item, refined_state, refined_body, refined_subgraph, refined_transition, all_acting, actions_for}
use Rattle.derived_classes.specs.Views.{refining_views}
use Rattle.derived_classes.specs.declared.refining.paths.Pending.{Pending}

abbrev pub name_of : StateTree → List ℕ
name_of (StateOf name b) = name

none_meant : (earlier : List (List ℕ)) (name : List ℕ) → meant_for earlier name [] ≡ []
none_meant earlier name = go (is_among earlier name)
  where
    nothing : List Refining
    nothing = []

    go : (b : Bool) → (if b then nothing else nothing) ≡ nothing
    go true = refl
    go false = refl

same_transition : (t : Transition) → refined_transition [] t ≡ t
same_transition t = ap (λ b. record t { body = b }) (go t.name t.body)
  where
    go : (name : Option (List ℕ)) (b : Option TransitionBody) → all_acting (actions_for name []) b ≡ b
    go None b = refl
    go (Some n) b = refl

mutual
  pub unrefined : (g : GraphItems) (earlier : List (List ℕ)) → refined_items g earlier [] ≡ g
  unrefined no_items earlier = refl
  unrefined (item i is) earlier = ap (λ j. item j (refined_items is (with_state i earlier) [])) (unrefined_item i earlier) ∙ ap (item i) (unrefined is (with_state i earlier))

  unrefined_item : (i : GraphItemTree) (earlier : List (List ℕ)) → refined_item i earlier [] ≡ i
  unrefined_item (AState s) earlier = ap AState (unrefined_state s earlier)
  unrefined_item (AChoice c) earlier = refl
  unrefined_item (APoint p) earlier = refl
  unrefined_item (ATransition t) earlier = ap ATransition (same_transition t)
  unrefined_item (ARefinement path change) earlier = refl

  unrefined_state : (s : StateTree) (earlier : List (List ℕ)) → refined_state s earlier [] ≡ s
  unrefined_state (StateOf name b) earlier = ap (λ rs. StateOf name (refined_body b rs)) (none_meant earlier name) ∙ ap (StateOf name) (unrefined_body b)

  unrefined_body : (b : BodyTree) → refined_body b [] ≡ b
  unrefined_body no_body = refl
  unrefined_body (body e x s) = ap (body e x) (unrefined_subgraph s)

  unrefined_subgraph : (s : SubgraphTree) → refined_subgraph s [] ≡ s
  unrefined_subgraph no_subgraph = refl
  unrefined_subgraph (subgraph is) = ap subgraph (unrefined is [])

pub its_name : (s : State) → (out-State s).name ≡ name_of (state_view s)
its_name s = sym (ap name_of (fold_out-State ChangeTree GraphItemTree GraphItemTree StateTree BodyParts change_step item_step refinement_step state_step body_step s))

-- a state for which none are meant
pub state_unrefined : (s : StateTree) (earlier : List (List ℕ)) (rs : List Refining) (ps : List Pending) → refining_views ps ≡ meant_for earlier (name_of s) rs → length ps ≡ 0 → s ≡ refined_state s earlier rs
state_unrefined (StateOf name b) earlier rs [] meant e = sym (ap (λ ms. StateOf name (refined_body b ms)) (sym meant) ∙ ap (StateOf name) (unrefined_body b))
state_unrefined s earlier rs (p ∷ ps) meant e = absurd (omega (arith, e))

pub nothing_refined : (ps : List Pending) (g : GraphItems) → length ps ≡ 0 → refined (refining_views ps) g ≡ g
nothing_refined [] g e = unrefined g []
nothing_refined (p ∷ ps) g e = absurd (omega (arith, e))
