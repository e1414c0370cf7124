-- The parts of a checked model by number.
use Rattle.std.proofs.Common.{◌≡◌, ℕ, ◌<◌, List, length, map, Bor, sym, ap, ◌∙◌, arith}
use Rattle.std.proofs.lemmas.List.{length-map}
use Rattle.room_ast.specs.Trees.{ActorTree, actor_view}
use Rattle.room_ast.specs.declared.actor.ActorClass.{ActorClass}
use Rattle.room_ast.specs.declared.scope.Scope.{Scope}
use Rattle.check_scopes.specs.class_scopes.Making.{actor_views}
use Rattle.check_scopes.specs.class_scopes.Views.{ScopeView, scope_view}

there : {X Y Z : Type 0} (v : X → Y) (f : Z → Y) (xs : List X) (zs : List Z) (i : ℕ) → map v xs ≡ map f zs → i < length zs → i < length xs
there v f xs zs i e lt = let n : length xs ≡ length zs = sym (length-map xs v) ∙ ap length e ∙ length-map zs f in omega (arith, n, lt)

pub scope_there : (f : ActorTree → ScopeView) (scopes : List Scope) (classes : List ActorTree) (i : ℕ) → map scope_view scopes ≡ map f classes → i < length classes → i < length scopes
scope_there f scopes classes i e lt = there scope_view f scopes classes i e lt

pub class_there : (refs : List (Bor ActorClass)) (classes : List ActorTree) (i : ℕ) → actor_views refs ≡ classes → i < length classes → i < length refs
class_there refs classes i e lt = let n : length refs ≡ length classes = sym (length-map refs (λ (r : Bor ActorClass). actor_view r.now)) ∙ ap length e in omega (arith, n, lt)
