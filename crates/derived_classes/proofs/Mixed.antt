-- Graphs that are refined up to a place.
use Rattle.std.proofs.Common.{◌≡◌, ℕ, zero, suc, ◌+◌, ◌<◌, ◌≤◌, ◌∙◌, List, [], ◌∷◌, length, get_or, refl, sym, ap, subst, add-one, arith}
use Rattle.std.specs.Prelude.{slice_set}
use Rattle.room_ast.specs.ChartTree.{GraphItems, no_items, item, item_view, graph_view}
use Rattle.room_ast.specs.declared.chart.GraphItem.{GraphItem}
use Rattle.derived_classes.specs.Refining.{Refining, GivesTheSame, refined_item, refined_items, with_state}
use Rattle.derived_classes.proofs.Seen.{items_alike}

-- items of which so many are refined, and then the others with their refinements
abbrev pub mixed : ℕ → List GraphItem → List (List ℕ) → List Refining → GraphItems
mixed zero xs es rs = refined_items (graph_view xs) es rs
mixed (suc n) [] es rs = no_items
mixed (suc n) (x ∷ xs) es rs = item (item_view x) (mixed n xs es rs)

pub all_refined : (n : ℕ) (xs : List GraphItem) (es : List (List ℕ)) (rs : List Refining) → length xs ≤ n → mixed n xs es rs ≡ graph_view xs
all_refined zero [] es rs le = refl
all_refined (suc n) [] es rs le = refl
all_refined zero (x ∷ xs) es rs le = absurd (omega arith)
all_refined (suc n) (x ∷ xs) es rs le = ap (item (item_view x)) (all_refined n xs es rs (omega arith))

one_refined : (rs : List Refining) (n : ℕ) (xs : List GraphItem) (d y : GraphItem) (es fs : List (List ℕ)) → n < length xs → item_view y ≡ refined_item (item_view (get_or xs n d)) es rs → GivesTheSame rs fs (with_state (item_view (get_or xs n d)) es)
    → mixed (suc n) (slice_set xs n y) fs rs ≡ mixed n xs es rs
one_refined rs n [] d y es fs lt made seen = absurd (omega arith)
one_refined rs zero (x ∷ xs) d y es fs lt made seen =
    ap (λ i. item i (refined_items (graph_view xs) fs rs)) made ∙ ap (item (refined_item (item_view x) es rs)) (items_alike rs fs (with_state (item_view x) es) (graph_view xs) seen)
one_refined rs (suc n) (x ∷ xs) d y es fs lt made seen = ap (item (item_view x)) (one_refined rs n xs d y es fs (omega arith) made seen)

-- one more item is refined
pub refined_next : (rs grouped : List Refining) → rs ≡ grouped → (whole : GraphItems) (n : ℕ) (xs : List GraphItem) (x y : GraphItem) (es fs : List (List ℕ)) → mixed n xs es rs ≡ whole → n < length xs → x ≡ get_or xs n x → item_view y ≡ refined_item (item_view x) es grouped
    → GivesTheSame grouped fs (with_state (item_view x) es) → mixed (n + 1) (slice_set xs n y) fs rs ≡ whole
refined_next rs grouped are whole n xs x y es fs before lt here made seen =
    ap (λ k. mixed k (slice_set xs n y) fs rs) (add-one n)
    ∙ one_refined rs n xs x y es fs lt (subst (λ z. item_view y ≡ refined_item (item_view z) es rs) here (made ∙ ap (refined_item (item_view x) es) (sym are))) (subst (λ z. GivesTheSame rs fs (with_state (item_view z) es)) here (subst (λ qs. GivesTheSame qs fs (with_state (item_view x) es)) (sym are) seen))
    ∙ before
