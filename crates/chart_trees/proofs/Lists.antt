-- Lists that loops build, and the items of a graph as a list.
use Rattle.std.proofs.Common.{◌≡◌, ℕ, ◌+◌, ◌<◌, List, [], ◌∷◌, ◌++◌, length, take, get_or, map, Option, Some, None, refl, sym, ap, ◌∙◌}
use Rattle.std.proofs.Common.{Result, Ok, Err}
use Rattle.std.specs.Prelude.{IfOk}
use Rattle.std.specs.declared.alloc.AllocError.{AllocError}
use Rattle.std.specs.List.{filter_map, cons_option}
use Rattle.std.specs.Option.{option_to_list}
use Rattle.std.proofs.lemmas.List.{take_more, map-append}
use Rattle.std.proofs.lemmas.List.Elements.{filter_map-append}
use Rattle.room_ast.specs.ChartTree.{GraphItemTree, items_of}
use Rattle.chart_trees.specs.Around.{list_of, entries_of}

one_kept : {Y : Type 0} (o : Option Y) → cons_option o [] ≡ option_to_list o
one_kept (Some y) = refl
one_kept None = refl

-- one more turn of a loop over items that are seen through a view and picked
pub picked_next : {W X Z : Type 0} (h : X → Option Z) (v : W → X) (xs : List W) (i : ℕ) (x : W) (o : Option Z) (old new : List Z) → i < length xs → x ≡ get_or xs i x → o ≡ h (v x) → old ≡ filter_map h (map v (take i xs)) → new ≡ old ++ option_to_list o → new ≡ filter_map h (map v (take (i + 1) xs))
picked_next h v xs i x o old new lt is item so_far more =
    more ∙ ap (λ ys. ys ++ option_to_list o) so_far ∙ ap (λ p. filter_map h (map v (take i xs)) ++ option_to_list p) (item ∙ ap (λ y. h (v y)) is)
    ∙ ap (λ ys. filter_map h (map v (take i xs)) ++ ys) (sym (one_kept (h (v (get_or xs i x)))))
    ∙ sym (ap (filter_map h) (ap (map v) (take_more xs i x lt) ∙ map-append v (take i xs) (get_or xs i x ∷ [])) ∙ filter_map-append h (map v (take i xs)) (v (get_or xs i x) ∷ []))

pub list_of_items : (xs : List GraphItemTree) → list_of (items_of xs) ≡ xs
list_of_items [] = refl
list_of_items (x ∷ xs) = ap (λ ys. x ∷ ys) (list_of_items xs)

pub entries_listed : (r : Result (List (List ℕ)) AllocError) (xs : List GraphItemTree) → IfOk r (λ n. n ≡ entries_of xs) → IfOk r (λ n. n ≡ entries_of (list_of (items_of xs)))
entries_listed (Ok n) xs e = e ∙ sym (ap entries_of (list_of_items xs))
entries_listed (Err e) xs h = h
