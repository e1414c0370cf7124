-- Graphs that grow at their end.
use Rattle.std.proofs.Common.{◌≡◌, ℕ, zero, suc, ◌≤◌, ◌∙◌, List, [], ◌∷◌, ◌++◌, length, drop, Option, Some, None, refl, ap, arith}
use Rattle.room_ast.specs.ChartTree.{GraphItemTree, GraphItems, no_items, item, items_of, item_view, graph_view}
use Rattle.room_ast.specs.declared.chart.GraphItem.{GraphItem}
use Rattle.room_ast.specs.Trees.{BehaviorTree}
use Rattle.derived_classes.specs.Derived.{derived_machine, derived_behavior, joined_items}
use Rattle.derived_classes.specs.Refining.{followed_by, other_items}

-- one more item at the end of the first of two graphs
pub followed_push : (xs : List GraphItem) (x : GraphItem) (rest : GraphItems) → followed_by (graph_view (xs ++ x ∷ [])) rest ≡ followed_by (graph_view xs) (item (item_view x) rest)
followed_push [] x rest = refl
followed_push (y ∷ ys) x rest = ap (item (item_view y)) (followed_push ys x rest)

-- nothing behind a graph
pub followed_none : (g : GraphItems) → followed_by g no_items ≡ g
followed_none no_items = refl
followed_none (item i is) = ap (item i) (followed_none is)

-- the items of two lists
pub followed_lists : (xs ys : List GraphItemTree) → items_of (xs ++ ys) ≡ followed_by (items_of xs) (items_of ys)
followed_lists [] ys = refl
followed_lists (x ∷ xs) ys = ap (item x) (followed_lists xs ys)

-- a class without a state machine adds nothing to its base's
pub machine_alone : (base : Option GraphItems) → derived_machine base None ≡ base
machine_alone None = refl
machine_alone (Some g) = refl

pub items_alone : {A : Type 0} (base : Option (List A)) → joined_items base None ≡ base
items_alone None = refl
items_alone (Some xs) = refl

pub behavior_alone : (base : Option BehaviorTree) → derived_behavior base None ≡ base
behavior_alone None = refl
behavior_alone (Some b) = refl

-- where no item is left
none_left : (n : ℕ) (xs : List GraphItem) → length xs ≤ n → drop n xs ≡ []
none_left zero [] le = refl
none_left (suc n) [] le = refl
none_left zero (x ∷ xs) le = absurd (omega arith)
none_left (suc n) (x ∷ xs) le = none_left n xs (omega arith)

pub others_done : (g : GraphItems) (n : ℕ) (xs : List GraphItem) → length xs ≤ n → followed_by g (other_items (graph_view (drop n xs))) ≡ g
others_done g n xs le = ap (λ ys. followed_by g (other_items (graph_view ys))) (none_left n xs le) ∙ followed_none g
