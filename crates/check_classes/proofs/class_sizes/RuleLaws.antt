-- The rule by the sizes.
use Rattle.std.proofs.Common.{◌≡◌, ◌⊎◌, inl, inr, ℕ, ◌<◌, ◌≤◌, min, Bool, true, false, not, nat_le, List, [], ◌∷◌, length, map, Option, Some, None, refl, sym, ap, ◌∙◌, subst, arith}
use Rattle.std.specs.Prelude.{◌&&◌}
use Rattle.std.specs.Global.{Vec}
use Rattle.std.specs.List.{list_all, sum_by}
use Rattle.std.proofs.lemmas.Bool.Decides.{nat_tests}
use Rattle.room_ast.specs.Trees.{ModelTree}
use Rattle.room_ast.specs.declared.model_parts.entries.TypeEntry.{TypeEntry}
use Rattle.room_ast.specs.model_parts.Types.{data_types}
use Rattle.number_graphs.specs.class_containment.Containment.{Contains, IsContainmentOrder, NoneContainsItself, contains_itself}
use Rattle.number_graphs.specs.class_containment.Walks.{Orders}
use Rattle.number_graphs.proofs.class_containment.Chains.{circle_is_seen}
use Rattle.check_tables.specs.class_tables.Containers.{class_names, tables_with, tables_of}
use Rattle.check_tables.specs.declared.class_tables.tables.Tables.{Tables}
use Rattle.check_tables.specs.containment_rules.Circles.{classes_of_types, data_is_finite}
use Rattle.check_classes.specs.class_sizes.Sizes.{sizes_within, size_by, cap, AreSizes, HasSizes}
use Rattle.check_classes.specs.class_sizes.Rules as rules
use Rattle.check_classes.proofs.class_sizes.SizeLaws.{sizes_give}

pub none_sized : (classes : List (List TypeEntry)) (parts : List (List ℕ)) (order : Option (Vec ℕ)) → parts ≡ map classes_of_types classes → Orders parts order → order ≡ None → contains_itself (map classes_of_types classes) ≡ true
none_sized classes parts (Some order) e h is = absurd cc
none_sized classes parts None e h is = ap contains_itself (sym e) ∙ circle_is_seen parts h.0 h.1

pub some_sized : (classes : List (List TypeEntry)) (parts : List (List ℕ)) (option : Option (Vec ℕ)) (order : Vec ℕ) (sizes : List ℕ) → parts ≡ map classes_of_types classes → Orders parts option → option ≡ Some order → (IsContainmentOrder (map classes_of_types classes) order.items → AreSizes classes sizes)
    → AreSizes classes sizes
some_sized classes parts None order sizes e h is give = absurd cc
some_sized classes parts (Some found) order sizes e h is give =
    let P : List (List ℕ) → Type 0 = λ ps. IsContainmentOrder ps order.items in
    let same : found ≡ order = cc in
    let Q : Vec ℕ → Type 0 = λ v. IsContainmentOrder parts v.items in
    give (subst P e (subst Q same h.0))

cap_test : (n : ℕ) → nat_le (min cap n) 64 ≡ nat_le n 64
cap_test n = grind (arith, nat_tests)

each_small : (classes : List (List TypeEntry)) (sizes : List ℕ) → AreSizes classes sizes → (xs : List (List TypeEntry)) → list_all (λ ts. nat_le (min cap (sum_by (size_by sizes) ts)) 64) xs ≡ list_all (λ ts. nat_le (sizes_within (length classes) classes ts) 64) xs
each_small classes sizes are [] = refl
each_small classes sizes are (ts ∷ xs) =
    let here : nat_le (min cap (sum_by (size_by sizes) ts)) 64 ≡ nat_le (sizes_within (length classes) classes ts) 64 = ap (λ n. nat_le n 64) (sizes_give classes sizes are ts) ∙ cap_test (sizes_within (length classes) classes ts) in
    ap (λ b. b && list_all (λ ts. nat_le (min cap (sum_by (size_by sizes) ts)) 64) xs) here ∙ ap (λ b. nat_le (sizes_within (length classes) classes ts) 64 && b) (each_small classes sizes are xs)

-- the types of the tables are those of the model
types_of : (m : ModelTree) (t : Tables) → t ≡ tables_of m → t.data_types ≡ data_types m
unfolding class_names tables_with
types_of m t e = ap (λ (x : Tables). x.data_types) e

pub small_by_sizes : (m : ModelTree) (t : Tables) (classes : List (List TypeEntry)) (sizes : List ℕ) (b : Bool) → t ≡ tables_of m → classes ≡ t.data_types → AreSizes classes sizes → b ≡ list_all (λ ts. nat_le (min cap (sum_by (size_by sizes) ts)) 64) classes → b ≡ rules.has_small_classes m
unfolding rules.has_small_classes
small_by_sizes m t classes sizes b e f are test = test ∙ each_small classes sizes are classes ∙ ap (λ cs. list_all (λ ts. nat_le (sizes_within (length cs) cs ts) 64) cs) (f ∙ types_of m t e)

pub none_is_finite : (m : ModelTree) (t : Tables) (classes : List (List TypeEntry)) → t ≡ tables_of m → classes ≡ t.data_types → contains_itself (map classes_of_types classes) ≡ true → data_is_finite m ≡ true → ⊥
unfolding data_is_finite
none_is_finite m t classes e f circle finite =
    let g : contains_itself (map classes_of_types (data_types m)) ≡ true = ap (λ cs. contains_itself (map classes_of_types cs)) (sym (f ∙ types_of m t e)) ∙ circle in
    let h : false ≡ true = ap not (sym g) ∙ finite in
    cc
