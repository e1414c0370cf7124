-- A turn of the walk over the actor classes.
use Rattle.std.proofs.Common.{◌≡◌, ◌∙◌, ℕ, ◌+◌, ◌<◌, ◌≤◌, List, [], ◌∷◌, ◌++◌, Option, Some, length, map, get_or, drop, drop-cons, add-one, append_assoc, refl, sym, ap, arith}
use Rattle.room_ast.specs.Trees.{ClassTree, ActorTree, class_view}
use Rattle.room_ast.specs.declared.model.Class.{Class}
use Rattle.room_ast.specs.model_parts.Classes.{as_actor}
use Rattle.check_tables.specs.declared.class_tables.container.Container.{Container}
use Rattle.wiring_plan.specs.structure_plan.Steps.{made_first, made}

module _ {P : Type 0} (make : Container → ActorTree → P) (cs : List Class) (i : ℕ) (k : Class) (l : i < length cs) (is : k ≡ get_or cs i k) where
  now : map class_view (drop i cs) ≡ class_view k ∷ map class_view (drop (i + 1) cs)
  now = rw (add-one, drop-cons cs i k, ← is) refl

  -- the part that is taken is the first of those that are left
  pub taken_turn : (a : ActorTree) → as_actor (class_view k) ≡ Some a → (left others : List Container) (own : Container) → left ≡ own ∷ others → (plan : P) → plan ≡ make own a → (plans whole : List P)
      → plans ++ made as_actor make (map class_view (drop i cs)) left ≡ whole → (plans ++ plan ∷ []) ++ made as_actor make (map class_view (drop (i + 1) cs)) others ≡ whole
  taken_turn a some left others own first plan plan_is plans whole inv =
      let rest = map class_view (drop (i + 1) cs) in
      let step : made as_actor make (map class_view (drop i cs)) left ≡ make own a ∷ made as_actor make rest others =
      ap (λ (parts : List Container). made as_actor make (map class_view (drop i cs)) parts) first ∙ ap (λ (ks : List ClassTree). made as_actor make ks (own ∷ others)) now
      ∙ ap (λ (o : Option ActorTree). made_first make (made as_actor make rest) o (own ∷ others)) some
      in
      append_assoc plans (plan ∷ []) (made as_actor make rest others) ∙ ap (λ (p : P). plans ++ p ∷ made as_actor make rest others) plan_is ∙ ap (λ (ps : List P). plans ++ ps) (sym step) ∙ inv

  pub actor_turn : (a : ActorTree) → as_actor (class_view k) ≡ Some a → (left : List Container) (own : Container) → 1 ≤ length left → own ≡ get_or left 0 own → (plan : P) → plan ≡ make own a → (plans whole : List P)
      → plans ++ made as_actor make (map class_view (drop i cs)) left ≡ whole → (plans ++ plan ∷ []) ++ made as_actor make (map class_view (drop (i + 1) cs)) (drop 1 left) ≡ whole
  actor_turn a some [] own lt first plan plan_is plans whole inv = absurd (omega arith)
  actor_turn a some (x ∷ xs) own lt first plan plan_is plans whole inv = taken_turn a some (x ∷ xs) xs x refl plan (plan_is ∙ ap (λ (c : Container). make c a) first) plans whole inv
