-- Counts of lists that are seen through a view.
use Rattle.std.proofs.Common.{◌≡◌, ℕ, ◌+◌, Bool, cond, List, [], ◌∷◌, length, map, Option, Some, None, refl, sym, ap, ◌∙◌, arith}
use Rattle.std.specs.Prelude.{is_some, count_by}
use Rattle.std.specs.List.{list_all, filter_map, cons_option}
use Rattle.std.proofs.lemmas.List.Sums.{sum_by-cons}
use Rattle.check_classes.proofs.class_rules.Views.{test_viewed, of_actors}
use Rattle.room_ast.specs.Trees.{ClassTree, ActorTree}
use Rattle.room_ast.specs.model_parts.Classes.{as_actor}
use Rattle.check_classes.specs.class_rules.Loops.{of_actor}

counts_viewed : {X Y : Type 0} (p : Y → Bool) (v : X → Y) (xs : List X) → count_by (λ x. p (v x)) xs ≡ count_by p (map v xs)
counts_viewed p v [] = refl
counts_viewed p v (x ∷ xs) =
    sum_by-cons (λ y. cond (p (v y)) 1 0) x xs ∙ ap (λ n. cond (p (v x)) 1 0 + n) (counts_viewed p v xs) ∙ sym (sum_by-cons (λ y. cond (p y) 1 0) (v x) (map v xs))

pub count_viewed : {X Y : Type 0} (r : ℕ) (p : Y → Bool) (v : X → Y) (xs : List X) → r ≡ count_by (λ x. p (v x)) xs → r ≡ count_by p (map v xs)
count_viewed r p v xs e = e ∙ counts_viewed p v xs

counts_picked : {X Y : Type 0} (h : X → Option Y) (xs : List X) → count_by (λ x. is_some (h x)) xs ≡ length (filter_map h xs)
counts_picked h [] = refl
counts_picked h (x ∷ xs) =
    sum_by-cons (λ y. cond (is_some (h y)) 1 0) x xs ∙ ap (λ n. cond (is_some (h x)) 1 0 + n) (counts_picked h xs) ∙ step (h x)
  where
    step : (o : Option _) → cond (is_some o) 1 0 + length (filter_map h xs) ≡ length (cons_option o (filter_map h xs))
    step (Some y) = omega arith
    step None = omega arith

-- how many items a function picks, as a count
pub count_picked : {X Y : Type 0} (r : ℕ) (h : X → Option Y) (xs : List X) → r ≡ count_by (λ x. is_some (h x)) xs → r ≡ length (filter_map h xs)
count_picked r h xs e = e ∙ counts_picked h xs

pub count_viewed_picked : {X Y Z : Type 0} (r : ℕ) (h : Y → Option Z) (v : X → Y) (xs : List X) → r ≡ count_by (λ x. is_some (h (v x))) xs → r ≡ length (filter_map h (map v xs))
count_viewed_picked r h v xs e = e ∙ counts_viewed (λ y. is_some (h y)) v xs ∙ counts_picked h (map v xs)

pub test_of_actors : {X : Type 0} (r : Bool) (p : ActorTree → Bool) (v : X → ClassTree) (xs : List X) → r ≡ list_all (λ x. of_actor p (v x)) xs → r ≡ list_all p (filter_map as_actor (map v xs))
test_of_actors r p v xs e = test_viewed r (of_actor p) v xs e ∙ of_actors p (map v xs)
