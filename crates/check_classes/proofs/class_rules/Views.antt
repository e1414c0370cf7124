-- Tests of lists that are seen through a view.
use Rattle.std.proofs.Common.{◌≡◌, ℕ, ◌+◌, ◌<◌, Bool, true, false, List, [], ◌∷◌, ◌++◌, length, take, get_or, map, Option, Some, None, Bor, refl, sym, ap, ◌∙◌}
use Rattle.std.specs.Prelude.{◌&&◌, ◌||◌}
use Rattle.std.specs.List.{list_all, list_any, filter_map, cons_option}
use Rattle.std.specs.Option.{option_map_or}
use Rattle.std.proofs.lemmas.List.{take_more, map-append}
use Rattle.std.proofs.lemmas.List.Folds.{list_all-map, list_all_more, list_all_at}
use Rattle.name_tables.specs.name_numbers.Names.{names_of}
use Rattle.room_ast.specs.Trees.{ClassTree, ActorTree}
use Rattle.room_ast.specs.declared.protocol.DataClass.{DataClass}
use Rattle.room_ast.specs.declared.protocol.ProtocolClass.{ProtocolClass}
use Rattle.room_ast.specs.model_parts.Classes.{as_actor, as_protocol, as_data}
use Rattle.check_classes.specs.class_rules.Loops.{of_actor, of_protocol, of_data}

pub all_viewed : {X Y : Type 0} (p : Y → Bool) (v : X → Y) (xs : List X) → list_all p (map v xs) ≡ list_all (λ x. p (v x)) xs
all_viewed p v xs = list_all-map p v xs

pub all_named : (p : List ℕ → Bool) (refs : List (Bor (List ℕ))) → list_all p (names_of refs) ≡ list_all (λ (r : Bor (List ℕ)). p r.now) refs
all_named p refs = list_all-map p (λ (r : Bor (List ℕ)). r.now) refs

pub any_named : (p : List ℕ → Bool) (refs : List (Bor (List ℕ))) → list_any p (names_of refs) ≡ list_any (λ (r : Bor (List ℕ)). p r.now) refs
any_named p [] = refl
any_named p (r ∷ rs) = ap (λ b. p r.now || b) (any_named p rs)

pub names_append : (xs ys : List (Bor (List ℕ))) → names_of (xs ++ ys) ≡ names_of xs ++ names_of ys
names_append xs ys = map-append (λ (r : Bor (List ℕ)). r.now) xs ys

-- ---- the same, as what a test answers

pub test_viewed : {X Y : Type 0} (r : Bool) (p : Y → Bool) (v : X → Y) (xs : List X) → r ≡ list_all (λ x. p (v x)) xs → r ≡ list_all p (map v xs)
test_viewed r p v xs e = e ∙ sym (all_viewed p v xs)

pub test_named : (r : Bool) (p : List ℕ → Bool) (refs : List (Bor (List ℕ))) → r ≡ list_all (λ (x : Bor (List ℕ)). p x.now) refs → r ≡ list_all p (names_of refs)
test_named r p refs e = e ∙ sym (all_named p refs)

pub test_any_named : (r : Bool) (p : List ℕ → Bool) (refs : List (Bor (List ℕ))) → r ≡ list_any (λ (x : Bor (List ℕ)). p x.now) refs → r ≡ list_any p (names_of refs)
test_any_named r p refs e = e ∙ sym (any_named p refs)

-- a test of what a function picks, as a test of every item
all_picked : {X Y : Type 0} (p : Y → Bool) (h : X → Option Y) (xs : List X) → list_all (λ x. option_map_or p (h x) true) xs ≡ list_all p (filter_map h xs)
all_picked p h [] = refl
all_picked p h (x ∷ xs) = ap (λ b. option_map_or p (h x) true && b) (all_picked p h xs) ∙ step (h x)
  where
    step : (o : Option _) → (option_map_or p o true && list_all p (filter_map h xs)) ≡ list_all p (cons_option o (filter_map h xs))
    step (Some y) = refl
    step None = refl

pub of_actors : (p : ActorTree → Bool) (cs : List ClassTree) → list_all (of_actor p) cs ≡ list_all p (filter_map as_actor cs)
of_actors p cs = all_picked p as_actor cs

pub of_protocols : (p : ProtocolClass → Bool) (cs : List ClassTree) → list_all (of_protocol p) cs ≡ list_all p (filter_map as_protocol cs)
of_protocols p cs = all_picked p as_protocol cs

pub of_datas : (p : DataClass → Bool) (cs : List ClassTree) → list_all (of_data p) cs ≡ list_all p (filter_map as_data cs)
of_datas p cs = all_picked p as_data cs

-- ---- a loop that stops at the first item that fails

pub all_next : {X Y : Type 0} (p : Y → Bool) (v : X → Y) (xs : List X) (i : ℕ) (x : X) (b : Bool) → i < length xs → x ≡ get_or xs i x → b ≡ p (v x) → b ≡ true → list_all p (map v (take i xs)) ≡ true → list_all p (map v (take (i + 1) xs)) ≡ true
all_next p v xs i x b lt is test passes so_far =
    list_all-map p v (take (i + 1) xs) ∙ list_all_more (λ y. p (v y)) xs i x lt ∙ ap (λ c. c && p (v (get_or xs i x))) (sym (list_all-map p v (take i xs)) ∙ so_far)
    ∙ ap (λ y. p (v y)) (sym is) ∙ sym test ∙ passes

pub all_fails : {X Y : Type 0} (p : Y → Bool) (v : X → Y) (xs : List X) (i : ℕ) (x : X) (b : Bool) → i < length xs → x ≡ get_or xs i x → b ≡ p (v x) → b ≡ false → false ≡ list_all p (map v xs)
all_fails p v xs i x b lt is test fails =
    sym (list_all-map p v xs ∙ list_all_at (λ y. p (v y)) xs i x lt (ap (λ y. p (v y)) (sym is) ∙ sym test ∙ fails))
